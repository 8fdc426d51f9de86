-- Quick ways: what one comparison says of a name's number, and what tests and sums mean where it is so.
use Rattle.std.proofs.Common.{◌≡◌, ℕ, suc, ◌+◌, ◌-◌, ◌%◌, ◌^◌, ◌<◌, ◌≤◌, Bool, true, false, nat_lt, Some, None, ℤ, pos, negsuc, ◌+ℤ◌, unsigned_abs, w64, refl, ap, ◌∙◌, arith}
use Rattle.std.specs.Prelude.{cond, int_lt}
use Rattle.std.specs.Ordering.{int_cmp, is_lt, is_le}
use Rattle.std.specs.declared.cmp.Ordering.TheVariants.{Less, Equal, Greater}
use Rattle.std.proofs.lemmas.Int.{ints, fits_signed_from_abs}
use Rattle.std.proofs.lemmas.Bool.{lt-ltb, le-ltb, ltb-false}
use Rattle.awk_values.specs.declared.value.Value.{Value}
use Rattle.awk_values.specs.declared.value.Value.TheVariants as value
use Rattle.awk_values.specs.Comparison.{holds}
use Rattle.awk_values.specs.declared.comparison.CompareOp.TheVariants as op
use Rattle.sem_primitives.specs.Numbers.{Number as AnyNumber}
use Rattle.sem_primitives.proofs.Words.{small, fits}
use Rattle.mid_program.specs.Mid.{Slot, Code, Number, Get, Global, Parameter}
use Rattle.lower_model.specs.Quick.{Holder, holder_of, name_in, constant_in}
use Rattle.lower_model.specs.Small.{least, text_beside}
use Rattle.lower_model.proofs.State.{holder_slot, bare, BareOf, IsBeside, IsNone, IsNumber}
use Rattle.lower_model.proofs.Conversions.{bare_is}
use Rattle.lower_model.proofs.Products.{word, sum_word, mod_small, mod_once}

-- The two words that are no number's are far from all numbers.

far : (x : ℕ) (q : ℤ) → 2 ^ 63 ≤ x → x < 2 ^ 63 + 2 → unsigned_abs q ≤ 2 ^ 54 → 2 ^ 54 < (x + word q) % 2 ^ 64
far x (pos n) ge lt h =
    let e = mod_small (x + n) (omega (arith, lt, h)) in
    omega (arith, e, ge)
far x (negsuc n) ge lt h =
    let e = mod_once (x + (2 ^ 64 - suc n)) (x - suc n) (omega (arith, ge, h)) (omega (arith, lt)) in
    omega (arith, e, ge, h)

abbrev pub shown_by : Value → ℤ → ℕ → Bool
shown_by v q w = nat_lt w ((bare v + word q) % 2 ^ 64)

-- a name has a number, which is between the bounds
pub record Sure (v : Value) (q : ℤ) (w : ℕ) : Type 0 where
  pub number : AnyNumber
  pub value : v ≡ value.Num number.number
  pub above : ℕ
  pub sum : number.number +ℤ q ≡ pos above
  pub few : above ≤ w

shift_fits : (q : ℤ) → unsigned_abs q ≤ 2 ^ 55 → unsigned_abs q < 2 ^ 63
shift_fits q h = omega (arith, h)

abs_sum : (a b : ℤ) → unsigned_abs (a +ℤ b) ≤ unsigned_abs a + unsigned_abs b
abs_sum a b = grind (arith, ints)

pub sure : (v : Value) (q : ℤ) (w : ℕ) → unsigned_abs q ≤ 2 ^ 54 → w ≤ 2 ^ 54 → shown_by v q w ≡ false → Sure v q w
sure v q w hq hw e = by (bare_is v)
  where
    le : (bare v + word q) % 2 ^ 64 ≤ w
    le = ltb-false w ((bare v + word q) % 2 ^ 64) e

    no_mark : (x : ℕ) → bare v ≡ x → 2 ^ 63 ≤ x → x < 2 ^ 63 + 2 → ⊥
    no_mark x ex ge lt =
        let f = far (bare v) q (omega (arith, ex, ge)) (omega (arith, ex, lt)) hq in
        let l = le in
        absurd (omega (arith, f, l, hw))

    of_number : (m : AnyNumber) → v ≡ value.Num m.number → (z : ℤ) → m.number +ℤ q ≡ z → (bare v + word q) % 2 ^ 64 ≡ word z → Sure v q w
    of_number m ev (pos k) ez ew = let l = le in record { number = m; value = ev; above = k; sum = ez; few = omega (arith, l, ew) }
    of_number m ev (negsuc k) ez ew =
        let l = le in
        let s = abs_sum m.number q in
        let a : unsigned_abs (m.number +ℤ q) ≡ suc k = ap unsigned_abs ez in
        let b = small m in
        absurd (omega (arith, l, ew, s, a, b, hq, hw))

    by : BareOf v → Sure v q w
    by (IsBeside eb eh) = absurd (no_mark text_beside eb (omega arith) (omega arith))
    by (IsNone ev eb eh) = absurd (no_mark least eb (omega arith) (omega arith))
    by (IsNumber m ev eb eh) =
        let s = abs_sum m.number q in
        let sm = small m in
        of_number m ev (m.number +ℤ q) refl
        (ap (λ x. (x + word q) % 2 ^ 64) eb
        ∙ sum_word m.number q (fits m.number sm) (fits_signed_from_abs w64 q (omega (arith, hq))) (fits_signed_from_abs w64 (m.number +ℤ q) (omega (arith, s, sm, hq))))

-- Which code is meant.

pub holder_is : (x : Slot) (h : Holder) → holder_of x ≡ Some h → x ≡ holder_slot h
holder_is (Global true i) h e = ap (λ o. elim o [ Some z ↦ holder_slot z | None ↦ Global true i ]) e
holder_is (Parameter true i) h e = ap (λ o. elim o [ Some z ↦ holder_slot z | None ↦ Parameter true i ]) e
holder_is x h e = cc

pub name_is : (e : Code) (h : Holder) → name_in e ≡ Some h → e ≡ Get (holder_slot h)
name_is (Get y) h e = ap Get (holder_is y h e)
name_is e h q = cc

pub constant_is : (e : Code) (z : ℤ) → constant_in e ≡ Some z → e ≡ Number z
constant_is (Number x) z e = ap (λ o. elim o [ Some y ↦ Number y | None ↦ Number x ]) e
constant_is e z q = cc

-- Comparisons of which the numbers between bounds are sure.

pub shift_pos : (z : ℤ) → unsigned_abs z ≤ 2 ^ 53 → (z +ℤ pos (2 ^ 53) ≡ pos (unsigned_abs (z +ℤ pos (2 ^ 53)))) × (unsigned_abs (z +ℤ pos (2 ^ 53)) ≤ 2 ^ 54)
shift_pos z h = (grind (arith, ints, h), grind (arith, ints, h))

pub shifted_less : (m z : ℤ) → unsigned_abs m ≤ 2 ^ 53 → unsigned_abs z ≤ 2 ^ 53 → unsigned_abs (m +ℤ pos (2 ^ 53)) < unsigned_abs (z +ℤ pos (2 ^ 53)) → int_lt m z ≡ true
shifted_less (pos a) (pos b) hm hz lt = lt-ltb a b (omega (arith, lt))
shifted_less (pos a) (negsuc b) hm hz lt = absurd (search (arith, ints))
shifted_less (negsuc a) (pos b) hm hz lt = refl
shifted_less (negsuc a) (negsuc b) hm hz lt = lt-ltb b a (search (arith, ints))

pub shifted_most : (m z : ℤ) → unsigned_abs m ≤ 2 ^ 53 → unsigned_abs z ≤ 2 ^ 53 → unsigned_abs (m +ℤ pos (2 ^ 53)) ≤ unsigned_abs (z +ℤ pos (2 ^ 53)) → int_lt z m ≡ false
shifted_most (pos a) (pos b) hm hz lt = le-ltb b a (omega (arith, lt))
shifted_most (pos a) (negsuc b) hm hz lt = absurd (search (arith, ints))
shifted_most (negsuc a) (pos b) hm hz lt = refl
shifted_most (negsuc a) (negsuc b) hm hz lt = le-ltb a b (search (arith, ints))

pub less_holds : (m z : ℤ) → int_lt m z ≡ true → holds op.Less (int_cmp m z) ≡ true
less_holds m z e = ap (λ p. is_lt (cond p Less (cond (int_lt z m) Greater Equal))) e

pub most_holds : (m z : ℤ) → int_lt z m ≡ false → holds op.LessOrEqual (int_cmp m z) ≡ true
most_holds m z e = ap (λ q. is_le (cond (int_lt m z) Less (cond q Greater Equal))) e ∙ by (int_lt m z)
  where
    by : (p : Bool) → is_le (cond p Less (cond false Greater Equal)) ≡ true
    by true = refl
    by false = refl
