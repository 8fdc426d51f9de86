-- Where a function is called its caller holds parameters, operands that are pending, and iterators of the loops that are walked: the machine goes on.
use Rattle.std.proofs.Common.{◌≡◌, inl, inr, ℕ, zero, suc, ◌+◌, ◌<◌, ◌≤◌, Bool, true, false, List, [], ◌∷◌, ◌++◌, length, refl, sym, ap, ap₂, ◌∙◌, arith}
use Rattle.std.specs.Prelude.{not, ◌&&◌, cond, nat_eq, nat_le}
use Rattle.std.proofs.lemmas.Bool.{eq-eqb, le-leb}
use Rattle.wasm_types.specs.Syntax.{Instructions}
use Rattle.mid_program.specs.Mid.{Kind, Boxed, Unboxed, ArrayKind, Program}
use Rattle.sem_scripts.specs.ScriptState.{State}
use Rattle.mid_program.specs.Sorted.{has_kind}
use Rattle.lower_model.specs.Cells.{Cell, Bits, Held, IteratorOf, OwnedArray, LentArray, Gone, arrays_owned, is_array, is_owned, is_held, is_iterator, iterators_in, is_operand, locals_wait, no_value, operands_wait}
use Rattle.lower_model.specs.Emission.{Layout, all_freed}
use Rattle.lower_model.specs.Machine.{Label, Frame, arrays_freed, array_kinds, loops_walked, makes_few, waits}
use Rattle.lower_model.specs.Places.{Bases}
use Rattle.lower_model.specs.Small.{answer_kept}
use Rattle.lower_model.proofs.Observer.{Observer}
use Rattle.lower_model.proofs.Regions.{cells, pairs}
use Rattle.lower_model.proofs.Locals.{Locals, temporaries_on, laid}
use Rattle.lower_model.proofs.Steps.{empty}
use Rattle.lower_model.proofs.Relation.{Fit, IsHand, IsWalk, IsYard, ParamLoose, fit_loose}
use Rattle.lower_model.proofs.Simulation.{Walking}
use Rattle.lower_model.proofs.Tidy.{passed, still_cells, still_pairs, still_parameters, unowned_still, walked_cells}

-- cells that hold no value

no_cells : (f : ℕ → Cell) (n : ℕ) (rest : List Cell) → ((i : ℕ) → is_held (f i) ≡ false) → no_value rest ≡ true → no_value (cells f n ++ rest) ≡ true
no_cells f zero rest h r = r
no_cells f (suc n) rest h r = ap₂ (λ x y. not x && y) (h zero) (no_cells (λ i. f (suc i)) n rest (λ i. h (suc i)) r)

no_pairs : (f g : ℕ → Cell) (n : ℕ) (rest : List Cell) → ((i : ℕ) → is_held (f i) ≡ false) → ((i : ℕ) → is_held (g i) ≡ false) → no_value rest ≡ true → no_value (pairs f g n ++ rest) ≡ true
no_pairs f g zero rest h k r = r
no_pairs f g (suc n) rest h k r =
    ap₂ (λ x y. not x && y) (h zero) (ap₂ (λ x y. not x && y) (k zero) (no_pairs (λ i. f (suc i)) (λ i. g (suc i)) n rest (λ i. h (suc i)) (λ i. k (suc i)) r))

unowned_free : (c : Cell) → is_owned c ≡ false → is_held c ≡ false
unowned_free (Bits w) e = refl
unowned_free (Held v) e = cc
unowned_free (IteratorOf t) e = refl
unowned_free (OwnedArray a) e = refl
unowned_free (LentArray a) e = refl
unowned_free Gone e = refl

hand_operand : (c : Cell) → IsHand c → is_operand c ≡ true
hand_operand c (inl e) = ap is_operand e
hand_operand c (inr q) = ap is_operand q.1

hand_still : (c : Cell) → IsHand c → is_iterator c ≡ false
hand_still c (inl e) = ap is_iterator e
hand_still c (inr q) = ap is_iterator q.1

walk_free : (c : Cell) → IsWalk c → is_held c ≡ false
walk_free c (inl e) = ap is_held e
walk_free c (inr q) = ap is_held q.1

yard_free : (c : Cell) → IsYard c → is_held c ≡ false
yard_free c (inl e) = ap is_held e
yard_free c (inr q) = ap is_held q.1

yard_still : (c : Cell) → IsYard c → is_iterator c ≡ false
yard_still c (inl e) = ap is_iterator e
yard_still c (inr q) = ap is_iterator q.1

-- values stand in the first temporaries alone
operands_ok : (f g : ℕ → Cell) (n t m : ℕ) (rest : List Cell) → m ≡ t + t → t ≤ n → ((i : ℕ) → IsHand (f i)) → ((i : ℕ) → is_owned (g i) ≡ false) → ((i : ℕ) → t ≤ i → f i ≡ empty) → no_value rest ≡ true → operands_wait m (pairs f g n ++ rest) ≡ true
operands_ok f g n t zero rest e le h k free r = no_pairs f g n rest (λ i. ap is_held (free i (omega (arith, e)))) (λ i. unowned_free (g i) (k i)) r
operands_ok f g n t (suc zero) rest e le h k free r = absurd (omega (arith, e))
operands_ok f g zero t (suc (suc m)) rest e le h k free r = absurd (omega (arith, e, le))
operands_ok f g (suc n) zero (suc (suc m)) rest e le h k free r = absurd (omega (arith, e))
operands_ok f g (suc n) (suc t) (suc (suc m)) rest e le h k free r =
    ap₂ (λ x y. x && y) (ap₂ (λ x y. x && not y) (hand_operand (f zero) (h zero)) (k zero))
    (operands_ok (λ i. f (suc i)) (λ i. g (suc i)) n t m rest (omega (arith, e)) (omega (arith, le)) (λ i. h (suc i)) (λ i. k (suc i)) (λ i li. free (suc i) (omega (arith, li))) r)

-- Arrays that are to be freed: those that were made for calls, the first ones of their locals.

unowned_spare : (c : Cell) → is_owned c ≡ false → is_array c ≡ false
unowned_spare (Bits w) e = refl
unowned_spare (Held v) e = refl
unowned_spare (IteratorOf t) e = refl
unowned_spare (OwnedArray a) e = cc
unowned_spare (LentArray a) e = refl
unowned_spare Gone e = refl

hand_spare : (c : Cell) → IsHand c → is_array c ≡ false
hand_spare c (inl e) = ap is_array e
hand_spare c (inr q) = ap is_array q.1

walk_spare : (c : Cell) → IsWalk c → is_array c ≡ false
walk_spare c (inl e) = ap is_array e
walk_spare c (inr q) = ap is_array q.1

one_array : (c : Cell) (m : ℕ) → cond (is_array c) (suc m) m ≤ suc m
one_array c m = by (is_array c)
  where
    by : (z : Bool) → cond z (suc m) m ≤ suc m
    by true = omega arith
    by false = omega arith

first_arrays : (f : ℕ → Cell) (n w : ℕ) (rest : List Cell) → ((i : ℕ) → w ≤ i → is_array (f i) ≡ false) → arrays_owned (cells f n ++ rest) ≤ w + arrays_owned rest
first_arrays f n zero rest h = let e = still_cells is_array f n rest (λ i. h i (omega arith)) in omega (arith, e)
first_arrays f zero (suc w) rest h = omega arith
first_arrays f (suc n) (suc w) rest h =
    let e = one_array (f zero) (arrays_owned (cells (λ i. f (suc i)) n ++ rest)) in
    let r = first_arrays (λ i. f (suc i)) n w rest (λ i le. h (suc i) (omega (arith, le))) in
    omega (arith, e, r)

-- after a call so many arrays are let go
pub freed_after : (y : Layout) (w i : ℕ) (k : Instructions) → i ≤ arrays_freed (all_freed y w i k)
freed_after y w zero k = omega arith
freed_after y w (suc i) k = let r = freed_after y w i k in omega (arith, r)

module _ (p : Program) (deepest : Observer) (ks : List Kind) (F : List Frame) (b : Bases) (M n : ℕ) where
  -- no more than w arrays
  few_arrays : (t u w : ℕ) (l : Locals) (σ : State) → Fit p deepest ks F t u w l σ → length ks ≡ b.parameters → arrays_owned (laid b l) ≤ w
  few_arrays t u w l σ fit same =
      let after = l.answer ∷ temporaries_on b l in
      let yards = cells l.array b.arrays ++ [] in
      let lo = fit_loose p deepest ks F t u w l σ fit in
      let e0 : arrays_owned (laid b l) ≡ arrays_owned (cells l.param (length ks) ++ after) = ap (λ m. arrays_owned (cells l.param m ++ after)) (sym same) in
      let e1 = still_parameters p deepest ks F b M n is_array (λ v. refl) unowned_spare ks l.param after lo.params in
      let e2 = passed is_array l.answer (arrays_owned (temporaries_on b l)) (ap is_array fit.answer) in
      let e3 = still_pairs is_array l.hand l.number b.temporaries (cells l.iterator b.iterators ++ yards) (λ i. hand_spare (l.hand i) (fit.hands i)) (λ i. unowned_spare (l.number i) (fit.numbers i)) in
      let e4 = still_cells is_array l.iterator b.iterators yards (λ i. walk_spare (l.iterator i) (fit.walks i)) in
      let e5 = first_arrays l.array b.arrays w [] (λ i le. ap is_array (fit.spare i le)) in
      let e : arrays_owned (laid b l) ≡ arrays_owned (cells l.array b.arrays ++ []) = e0 ∙ (e1 ∙ (e2 ∙ (e3 ∙ e4))) in
      omega (arith, e, e5)

  -- nor more than a function is given
  pub makes_few_there : (t u w : ℕ) (l : Locals) (σ : State) → Fit p deepest ks F t u w l σ → length ks ≡ b.parameters → (kinds : List Kind)
      → w ≤ array_kinds kinds → makes_few kinds (laid b l) ≡ true
  makes_few_there t u w l σ fit same kinds enough =
      le-leb (arrays_owned (laid b l)) (array_kinds kinds) (let a = few_arrays t u w l σ fit same in omega (arith, a, enough))

  parameters_wait : (js : List Kind) (f : ℕ → Cell) (m x : ℕ) (rest : List Cell) → x ≡ suc (length js) + m → ((i : ℕ) (k : Kind) → has_kind js i k ≡ true → ParamLoose p deepest ks F k (f i)) → locals_wait (suc m) [] rest ≡ true → locals_wait x js (cells f (length js) ++ rest) ≡ true
  parameters_wait [] f m x rest e h r = let q : x ≡ suc m = omega (arith, e) in ap (λ z. locals_wait z [] rest) q ∙ r
  parameters_wait (k ∷ js) f m zero rest e h r = absurd (omega (arith, e))
  parameters_wait (Boxed ∷ js) f m (suc x) rest e h r = ap₂ (λ x y. x && y) (ap is_held (h zero Boxed refl).1) (parameters_wait js (λ i. f (suc i)) m x rest (omega (arith, e)) (λ i j q. h (suc i) j q) r)
  parameters_wait (Unboxed ∷ js) f m (suc x) rest e h r = ap₂ (λ x y. not x && y) (h zero Unboxed refl) (parameters_wait js (λ i. f (suc i)) m x rest (omega (arith, e)) (λ i j q. h (suc i) j q) r)
  parameters_wait (ArrayKind ∷ js) f m (suc x) rest e h r = ap₂ (λ x y. not x && y) (h zero ArrayKind refl) (parameters_wait js (λ i. f (suc i)) m x rest (omega (arith, e)) (λ i j q. h (suc i) j q) r)

  -- A CALLER WAITS
  pub waits_there : (t u w d : ℕ) (k : Instructions) (K : List Label) (l : Locals) (σ : State) → Fit p deepest ks F t u w l σ → Walking p deepest ks F b M n (loops_walked K) u l → length ks ≡ b.parameters → t < b.temporaries → w ≤ arrays_freed k → waits ks K (laid b l) (answer_kept b t d k) ≡ true
  waits_there t u w d k K l σ fit walking same lt freed =
      let lo = fit_loose p deepest ks F t u w l σ fit in
      let yards : no_value (cells l.array b.arrays ++ []) ≡ true = no_cells l.array b.arrays [] (λ i. yard_free (l.array i) (fit.yards i)) refl in
      let rest : no_value (cells l.iterator b.iterators ++ (cells l.array b.arrays ++ [])) ≡ true = no_cells l.iterator b.iterators (cells l.array b.arrays ++ []) (λ i. walk_free (l.iterator i) (fit.walks i)) yards in
      let behind : locals_wait (suc (t + t)) [] (l.answer ∷ temporaries_on b l) ≡ true =
      ap₂ (λ x y. not x && y) (ap is_owned fit.answer)
      (operands_ok l.hand l.number b.temporaries t (t + t) (cells l.iterator b.iterators ++ (cells l.array b.arrays ++ [])) refl (omega (arith, lt)) fit.hands fit.numbers fit.free rest) in
      let held : locals_wait (suc b.parameters + (t + t)) ks (laid b l) ≡ true =
      ap (λ m. locals_wait (suc m + (t + t)) ks (cells l.param m ++ (l.answer ∷ temporaries_on b l))) (sym same) ∙ parameters_wait ks l.param (t + t) (suc (length ks) + (t + t)) (l.answer ∷ temporaries_on b l) refl lo.params behind in
      let e = walked_cells l.iterator b.iterators u (cells l.array b.arrays ++ []) walking.few walking.each (λ x le. fit.still x le) in
      let a = still_cells is_iterator l.array b.arrays [] (λ i. yard_still (l.array i) (fit.yards i)) in
      let walked : iterators_in (l.answer ∷ temporaries_on b l) ≡ u =
      passed is_iterator l.answer (iterators_in (temporaries_on b l)) (ap is_iterator fit.answer)
      ∙ (still_pairs is_iterator l.hand l.number b.temporaries (cells l.iterator b.iterators ++ (cells l.array b.arrays ++ [])) (λ i. hand_still (l.hand i) (fit.hands i)) (λ i. unowned_still (l.number i) (fit.numbers i))
      ∙ (e ∙ omega (arith, a))) in
      let count : nat_eq (iterators_in (laid b l)) (loops_walked K) ≡ true =
      eq-eqb (iterators_in (laid b l)) (loops_walked K)
      (ap (λ m. iterators_in (cells l.param m ++ (l.answer ∷ temporaries_on b l))) (sym same)
      ∙ (still_parameters p deepest ks F b M n is_iterator (λ v. refl) unowned_still ks l.param (l.answer ∷ temporaries_on b l) lo.params ∙ (walked ∙ sym walking.loops))) in
      let few : nat_le (arrays_owned (laid b l)) (arrays_freed k) ≡ true = le-leb (arrays_owned (laid b l)) (arrays_freed k) (let a = few_arrays t u w l σ fit same in omega (arith, a, freed)) in
      ap₂ (λ x y. x && y) held (ap₂ (λ x y. x && y) count few)
