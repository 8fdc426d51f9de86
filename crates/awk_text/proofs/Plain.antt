-- A text of digits alone is read whole, and stands for their number.
use Rattle.std.proofs.Common.{◌≡◌, ℕ, suc, ◌+◌, ◌-◌, ◌*◌, ◌^◌, ◌<◌, ◌≤◌, true, false, Some, Ok, List, [], ◌∷◌, length, drop, get_or, pos, append-nil, add-one, drop-cons, refl, sym, ◌∙◌, ap, subst, arith, inl}
use Rattle.awk_text.specs.Reading.{AreDigits, Numeral, is_digit, sign_at, fraction_at, numeral_at}
use Rattle.awk_text.specs.Number.{value_after, numerator, denominator, of_front, whole_value, truncated_value, number_of_text, truncated_of_text, looks_numeric_text, ends_in_spaces}
use Rattle.awk_text.specs.NumberText.{IsNumberText}
use Rattle.awk_text.proofs.Longest.{end_stops, numeral_exact}
use Rattle.awk_text.proofs.Meaning.{ranged_in, whole_exact, truncated_exact}

-- a loop's step
pub next_value : (ds : List ℕ) (i n m : ℕ) → i < length ds → m ≡ n * 10 + (get_or ds i 0 - 48) → value_after m (drop (i + 1) ds) ≡ value_after n (drop i ds)
next_value ds i n m h e = rw (add-one, drop-cons ds i 0) (ap (λ (x : ℕ). value_after x (drop (suc i) ds)) e)

pub next_digits : (ds : List ℕ) (i : ℕ) → i < length ds → is_digit (get_or ds i 0) ≡ true → AreDigits (drop (i + 1) ds) → AreDigits (drop i ds)
next_digits ds i h digit later =
    let one : i + 1 ≡ suc i = omega arith in
    rw (drop-cons ds i 0) (digit, subst (λ (n : ℕ). AreDigits (drop n ds)) one later)

abbrev of_digits : List ℕ → Numeral
of_digits ds = record { negative = false; whole = ds; fraction = []; exponent_negative = false; exponent = [] }

digits_are : (ds : List ℕ) → AreDigits ds → 1 ≤ length ds → IsNumberText ds (of_digits ds)
digits_are ds h some = record {
  spaces = [];
  sign = [];
  point = [];
  exponent = [];
  parted = sym (append-nil ds);
  blank = tt;
  signed = inl (refl, refl);
  whole = h;
  fraction = inl (refl, refl);
  some = subst (λ (t : List ℕ). 1 ≤ length t) (sym (append-nil ds)) some;
  exponent_is = inl (refl, refl, refl);
}

digits_read : (ds : List ℕ) → AreDigits ds → 1 ≤ length ds → numeral_at ds ≡ Some (of_digits ds, [])
digits_read ds h some = ap numeral_at (sym (append-nil ds)) ∙ numeral_exact ds (of_digits ds) [] (digits_are ds h some) end_stops

number_even : (ds : List ℕ) → value_after 0 ds * denominator (of_digits ds) ≡ numerator (of_digits ds)
unfolding numerator denominator
number_even ds = ap (λ (t : List ℕ). value_after 0 t * 1) (sym (append-nil ds))

pub digits_number : (ds : List ℕ) → AreDigits ds → value_after 0 ds ≤ 2 ^ 53 → number_of_text ds ≡ Ok (pos (value_after 0 ds))
unfolding numeral_at sign_at fraction_at
digits_number [] h small = refl
digits_number (d ∷ ds) h small =
    ap (of_front whole_value) (digits_read (d ∷ ds) h (omega arith)) ∙ whole_exact (of_digits (d ∷ ds)) (value_after 0 (d ∷ ds)) (number_even (d ∷ ds))
    ∙ ranged_in false (value_after 0 (d ∷ ds)) small

pub digits_truncated : (ds : List ℕ) → AreDigits ds → value_after 0 ds ≤ 2 ^ 53 → truncated_of_text ds ≡ Ok (pos (value_after 0 ds))
unfolding numeral_at sign_at fraction_at
digits_truncated [] h small = refl
digits_truncated (d ∷ ds) h small =
    ap (of_front truncated_value) (digits_read (d ∷ ds) h (omega arith)) ∙ truncated_exact (of_digits (d ∷ ds)) (value_after 0 (d ∷ ds)) (number_even (d ∷ ds))
    ∙ ranged_in false (value_after 0 (d ∷ ds)) small

pub digits_look : (ds : List ℕ) → AreDigits ds → 1 ≤ length ds → looks_numeric_text ds ≡ true
digits_look ds h some = ap ends_in_spaces (digits_read ds h some)
