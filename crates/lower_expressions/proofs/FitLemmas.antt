-- Code that fits has places, labels and arrays that do.
use Rattle.std.proofs.Common.{◌≡◌, ℕ, suc, ◌+◌, ◌≤◌, Bool, true, if◌then◌else◌, Option, Some, None, is_some, ℤ, ap, subst, arith}
use Rattle.mid_program.specs.Mid.{Code, Do, Over, Compare, Call, Ask, AskLine, FileLine, Replace, Number, Text, Unset, Get, Set, Array, IsOpen, Choose, Seq, Let, Bound, Codes, End, At, Fixed, Fresh}
use Rattle.mid_program.specs.declared.mid.Operation.{Operation}
use Rattle.mid_program.specs.Sorted.{count_of}
use Rattle.lower_model.specs.Emission.{Layout, Immediate, FieldOf, TextOf, NumberOf, immediate_field, immediate_in, field_in, array_meant}
use Rattle.lower_model.specs.Quick.{Addition, addition_in}
use Rattle.lower_pieces.specs.Bounds.{most_labels, most_places}
use Rattle.lower_expressions.specs.Fits.{AllFit, ArrayFits, ArraysFit, Fits, ImmediateFits, Within}

pub place_fits : (t w d : ℕ) → Within t w d → t ≤ most_places
place_fits t w d q = let a = q.0 in omega (arith, a)

pub next_fits : (t w d : ℕ) → Within t w d → suc t ≤ most_places
next_fits t w d q = let a = q.0 in omega (arith, a)

pub label_fits : (t w d : ℕ) → Within t w d → d ≤ most_labels
label_fits t w d q = let a = q.1.1 in omega (arith, a)

pub inner_fits : (t w d : ℕ) → Within t w d → suc d ≤ most_labels
inner_fits t w d q = let a = q.1.1 in omega (arith, a)

pub all_places : (y : Layout) (es : Codes) (t w d : ℕ) → AllFit y es t w d → suc (suc (t + count_of es)) ≤ most_places
all_places y End t w d q = let a = q.0 in omega (arith, a)
all_places y (At e es) t w d q = let a = all_places y es (suc t) w d q.1.1 in omega (arith, a)
all_places y (Fixed m es) t w d q = all_places y es t w d q
all_places y (Fresh es) t w d q = all_places y es t (suc w) d q.1

pub all_within : (y : Layout) (es : Codes) (t w d : ℕ) → AllFit y es t w d → Within t w d
all_within y End t w d q = q
all_within y (At e es) t w d q = q.0
all_within y (Fixed m es) t w d q = all_within y es t w d q
all_within y (Fresh es) t w d q = q.0

-- operations

pub outer_within : (t w d : ℕ) → Within t w (suc d) → Within t w d
outer_within t w d q = let a = q.1.1 in (q.0, (q.1.0, omega (arith, a)))

pub operation_place : (y : Layout) (o : Operation) (es : Codes) (t w d : ℕ) → Fits y (Do o es) t w d → t ≤ most_places
operation_place y o es t w d q =
    let e : ℕ = if is_some (addition_in o es) then suc d else d in
    place_fits t w e (all_within y es t w e q)

pub operands_fit_inside : (y : Layout) (o : Operation) (es : Codes) (s : Addition) (t w d : ℕ) → addition_in o es ≡ Some s → Fits y (Do o es) t w d → AllFit y es t w (suc d)
operands_fit_inside y o es s t w d h q = subst (λ (x : Option Addition). AllFit y es t w (if is_some x then suc d else d)) h q

-- operands

meant_fits : (y : Layout) (e : Code) (t w d : ℕ) → Fits y e t w d → ArrayFits (array_meant e)
meant_fits y (Array a) t w d q = q
meant_fits y (Seq a b) t w d q = meant_fits y b t w d q.1.1
meant_fits y (Let a b) t w d q = meant_fits y b (suc t) w d q.1.1
meant_fits y (Do o es) t w d q = tt
meant_fits y (Over l es) t w d q = tt
meant_fits y (Compare c a b) t w d q = tt
meant_fits y (Call f es) t w d q = tt
meant_fits y Ask t w d q = tt
meant_fits y (AskLine s) t w d q = tt
meant_fits y (FileLine e s) t w d q = tt
meant_fits y (Replace all es s) t w d q = tt
meant_fits y (Number z) t w d q = tt
meant_fits y (Text i) t w d q = tt
meant_fits y Unset t w d q = tt
meant_fits y (Get x) t w d q = tt
meant_fits y (Set x e) t w d q = tt
meant_fits y (IsOpen i) t w d q = tt
meant_fits y (Choose s c a b) t w d q = tt
meant_fits y (Bound m i) t w d q = tt

pub arrays_fit : (y : Layout) (es : Codes) (t w d : ℕ) → AllFit y es t w d → ArraysFit es
arrays_fit y End t w d q = tt
arrays_fit y (At e es) t w d q = (meant_fits y e t w d q.1.0, arrays_fit y es (suc t) w d q.1.1)
arrays_fit y (Fixed m es) t w d q = arrays_fit y es t w d q
arrays_fit y (Fresh es) t w d q = arrays_fit y es t (suc w) d q.1

same_some : (x i : Immediate) → Some x ≡ Some i → x ≡ i
same_some x i e = ap (λ (o : Option Immediate). elim o [ Some z ↦ z | None ↦ x ]) e

field_fits : (y : Layout) (o : Option ℤ) (i : Immediate) → immediate_field o ≡ Some i → ImmediateFits y i
field_fits y (Some z) i e = subst (ImmediateFits y) (same_some (FieldOf z) i e) tt
field_fits y None i e = cc

pub immediate_fits : (y : Layout) (v : Bool) (e : Code) (i : Immediate) (t w d : ℕ) → immediate_in v e ≡ Some i → Fits y e t w d → ImmediateFits y i
immediate_fits y v (Do o es) i t w d e q = field_fits y (field_in o es) i e
immediate_fits y v (Text j) i t w d e q = subst (ImmediateFits y) (same_some (TextOf j) i e) q.1
immediate_fits y true (Number z) i t w d e q = subst (ImmediateFits y) (same_some (NumberOf z) i e) tt
immediate_fits y v _ i t w d e q = cc
