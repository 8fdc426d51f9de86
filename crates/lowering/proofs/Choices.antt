-- What `return` returns otherwise than from the first temporary: a choice of values, where it is chosen, and an unboxed parameter.
use Rattle.std.proofs.Common.{◌≡◌, ℕ, true, false, [], ◌≤◌, Some, None, Option, refl, ap, arith}
use Rattle.sem_primitives.specs.declared.sorts.Sort.TheVariants.{Value}
use Rattle.wasm_types.specs.Syntax.{Instructions}
use Rattle.mid_program.specs.Mid.{Parameter, Code, Choose, Get, NumberOrText, form_of}
use Rattle.mid_program.specs.Sorted.{lender_at}
use Rattle.lower_model.specs.Emission.{Layout, emitted}
use Rattle.lower_model.specs.Statements.{answer_given, parameter_returned, returned}
use Rattle.lower_pieces.specs.Bounds.{most_labels, most_places}
use Rattle.lower_expressions.specs.Fits.{Fits}
use Rattle.lower_model.proofs.QuickNames.{none_is, some_is}
use Rattle.lowering.specs.Parts.{local_given}
use Rattle.lowering.specs.StepFits.{ReturnFits, choice_in, parameter_in, unless_lent}

pub choice_is : (e a b c : Code) → Some (a, b, c) ≡ choice_in e → Choose Value a b c ≡ e
choice_is (Choose Value x y z) a b c h = ap (λ (t : Code × Code × Code). Choose Value t.0 t.1 t.2) (some_is (a, b, c) (x, y, z) h)
choice_is e a b c h = absurd cc

pub plain_fits : (y : Layout) (e : Code) (d : ℕ) → None ≡ choice_in e → ReturnFits y e d → (d ≤ most_labels) × Fits y e 0 0 d
plain_fits y (Choose Value a b c) d h f = none_is h
plain_fits y e d h f = f

-- such a parameter

pub parameter_code : (y : Layout) (e : Code) (i d : ℕ) (k : Instructions) → Some i ≡ parameter_in y e → local_given y i d k ≡ returned y e d k
parameter_code y (Get (Parameter true j)) i d k h = by (lender_at y.lenders j) h
  where
    by : (lender : Option ℕ) → Some i ≡ unless_lent lender j → local_given y i d k ≡ parameter_returned y lender j d k
    by None q = ap (λ (n : ℕ). local_given y n d k) (some_is i j q)
    by (Some name) q = absurd cc
parameter_code y e i d k h = absurd cc

pub parameter_fits : (y : Layout) (e : Code) (i d : ℕ) → Some i ≡ parameter_in y e → ReturnFits y e d → (d ≤ most_labels) × (i ≤ most_places)
parameter_fits y (Get (Parameter true j)) i d h f = by (lender_at y.lenders j) h
  where
    by : (lender : Option ℕ) → Some i ≡ unless_lent lender j → (d ≤ most_labels) × (i ≤ most_places)
    by None q = let same = some_is i j q in let few = f.1.1 in (f.0, omega (arith, same, few))
    by (Some name) q = absurd cc
parameter_fits y e i d h f = absurd cc

pub plainly_code : (y : Layout) (e : Code) (d : ℕ) (k : Instructions) → None ≡ choice_in e → None ≡ parameter_in y e → emitted y false [] [] e 0 0 d (answer_given y (form_of [] e) d k) ≡ returned y e d k
plainly_code y (Choose Value a b c) d k h n = none_is h
plainly_code y (Get (Parameter true i)) d k h n = by (lender_at y.lenders i) n
  where
    by : (lender : Option ℕ) → None ≡ unless_lent lender i → emitted y false [] [] (Get (Parameter true i)) 0 0 d (answer_given y NumberOrText d k) ≡ parameter_returned y lender i d k
    by None q = none_is q
    by (Some name) q = refl
plainly_code y e d k h n = refl
