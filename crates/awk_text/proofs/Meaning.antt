-- The number that is read is the one that the text means, and there is no other.
use Rattle.std.proofs.Common.{◌≡◌, ℕ, ◌+◌, ◌-◌, ◌*◌, ◌/◌, ◌%◌, ◌^◌, ◌<◌, ◌≤◌, Bool, true, false, Option, Some, None, Result, Ok, Err, List, [], ◌++◌, length, length-append, append-nil, ℤ, refl, sym, ◌∙◌, ap, subst, arith, inl, inr, take}
use Rattle.std.specs.Prelude.{◌==◌, nat_le, ◌↔◌, IsTrue}
use Rattle.std.proofs.Math.Nat.{one-le-pow, mul_comm, add-mul}
use Rattle.std.proofs.Math.Seq.{take-append_seam}
use Rattle.std.proofs.lemmas.Nat.{div-mul-add, mod-mul-add}
use Rattle.std.proofs.lemmas.Int.{ints}
use Rattle.std.proofs.lemmas.Bool.{cond-true, cond-false, cond_both, eqb-true, ne_eqb, leb-true, le-leb, false_from_ne_true, eq-eqb}
use Rattle.awk_text.specs.Reading.{Numeral, count_while, is_space, numeral_at}
use Rattle.awk_text.specs.Number.{numerator, denominator, signed, ranged, whole_value, truncated_value, of_front, number_of_text, truncated_of_text, looks_numeric_text, ends_in_spaces}
use Rattle.awk_text.specs.NumberText.{InRange, IsLongestFront, IsNumberOf, IsNumberText, IsNumericLooking, IsTruncatedValue, IsWholeValue}
use Rattle.awk_text.specs.declared.number.NumberFault.{NumberFault}
use Rattle.awk_text.specs.declared.number.NumberFault.TheVariants.{Range, Fraction}
use Rattle.awk_text.proofs.Splits.{count-all, all-count}
use Rattle.awk_text.proofs.Sound.{numeral_sound}
use Rattle.awk_text.proofs.Longest.{end_stops, spaces_stop, numeral_longest, numeral_some, numeral_exact}

-- The range.

in_range : (negative : Bool) (k : ℕ) → k ≤ 2 ^ 53 → InRange (signed negative k)
in_range true k h = (omega (arith, ints), omega (arith, ints))
in_range false k h = (omega (arith, ints), omega (arith, ints))

within : (negative : Bool) (k : ℕ) → InRange (signed negative k) → k ≤ 2 ^ 53
within true k h = let low = h.0 in omega (arith, ints)
within false k h = let high = h.1 in omega (arith, ints)

pub ranged_in : (negative : Bool) (k : ℕ) → k ≤ 2 ^ 53 → ranged negative k ≡ Ok (signed negative k)
ranged_in negative k h = cond-true (nat_le k (2 ^ 53)) _ _ (le-leb k (2 ^ 53) h)

ranged_out : (negative : Bool) (k : ℕ) → (k ≤ 2 ^ 53 → ⊥) → ranged negative k ≡ Err Range
ranged_out negative k h = cond-false (nat_le k (2 ^ 53)) _ _ (false_from_ne_true (nat_le k (2 ^ 53)) (λ e. h (leb-true k (2 ^ 53) e)))

-- Quotient and rest by a power of ten.

abbrev IsPart : ℕ → ℕ → ℕ → Type 0
IsPart m d k = (k * d ≤ m) × (m < (k + 1) * d)

part_of : (m d : ℕ) → 1 ≤ d → IsPart m d (m / d)
part_of m d h = (omega (arith, mul_comm (m / d) d), omega (arith, mul_comm (m / d) d, add-mul (m / d) 1 d))

part_is : (m d k : ℕ) → IsPart m d k → m / d ≡ k
part_is m d k h =
    let whole : m ≡ k * d + (m - k * d) = (let low = h.0 in omega arith) in
    let small : m - k * d < d = (let low = h.0 in let high = h.1 in omega (arith, add-mul k 1 d)) in
    ap (λ n. n / d) whole ∙ div-mul-add k d (m - k * d) small

exact_part : (m d k : ℕ) → 1 ≤ d → k * d ≡ m → IsPart m d k
exact_part m d k h e = (omega arith, omega (arith, add-mul k 1 d))

exact_rest : (m d k : ℕ) → 1 ≤ d → k * d ≡ m → m % d ≡ 0
exact_rest m d k h e = let whole : m ≡ k * d + 0 = omega arith in ap (λ n. n % d) whole ∙ mod-mul-add k d 0 (omega arith)

rest_exact : (m d : ℕ) → 1 ≤ d → m % d ≡ 0 → (m / d) * d ≡ m
rest_exact m d h e = omega (arith, mul_comm (m / d) d)

denominator_some : (n : Numeral) → 1 ≤ denominator n
unfolding denominator
denominator_some n = cond_both n.exponent_negative _ _ (λ d. 1 ≤ d) (λ _. one-le-pow _ 10 (omega arith)) (λ _. one-le-pow _ 10 (omega arith))

-- The value of a numeral.

truncated_meant : (n : Numeral) → IsTruncatedValue n (truncated_value n)
truncated_meant n =
    let k : ℕ = numerator n / denominator n in
    let part = part_of (numerator n) (denominator n) (denominator_some n) in
    cond_both (nat_le k (2 ^ 53)) (Ok (signed n.negative k)) (Err Range) (IsTruncatedValue n)
    (λ e. (k, (part, (refl, in_range n.negative k (leb-true k (2 ^ 53) e)))))
    (λ e. (k, (part, λ r. absurd (let wrong : true ≡ false = sym (le-leb k (2 ^ 53) (within n.negative k r)) ∙ e in cc))))

truncated_one : (n : Numeral) (v : Result ℤ NumberFault) → IsTruncatedValue n v → v ≡ truncated_value n
truncated_one n (Ok v) (k, (part, (same, range))) =
    ap (λ (z : ℤ). Ok z) same ∙ sym (ap (ranged n.negative) (part_is _ _ k part) ∙ ranged_in n.negative k (within n.negative k (subst InRange same range)))
truncated_one n (Err Fraction) h = absurd h
truncated_one n (Err Range) (k, (part, past)) =
    sym (ap (ranged n.negative) (part_is _ _ k part) ∙ ranged_out n.negative k (λ h. past (in_range n.negative k h)))

whole_meant : (n : Numeral) → IsWholeValue n (whole_value n)
whole_meant n =
    let m : ℕ = numerator n in
    let d : ℕ = denominator n in
    let some : 1 ≤ d = denominator_some n in
    cond_both (m % d == 0) (truncated_value n) (Err Fraction) (IsWholeValue n)
    (λ e. (
    let even = rest_exact m d some (eqb-true (m % d) 0 e) in
    cond_both (nat_le (m / d) (2 ^ 53)) (Ok (signed n.negative (m / d))) (Err Range) (IsWholeValue n)
    (λ e. (m / d, (even, (refl, in_range n.negative (m / d) (leb-true (m / d) (2 ^ 53) e)))))
    (λ e. (m / d, (even, λ r. absurd (let wrong : true ≡ false = sym (le-leb (m / d) (2 ^ 53) (within n.negative (m / d) r)) ∙ e in cc))))))
    (λ e k even. (let wrong : true ≡ false = sym (ap (λ r. r == 0) (exact_rest m d k some even)) ∙ e in cc))

pub whole_exact : (n : Numeral) (k : ℕ) → k * denominator n ≡ numerator n → whole_value n ≡ ranged n.negative k
whole_exact n k even =
    let some = denominator_some n in
    cond-true (numerator n % denominator n == 0) _ _ (ap (λ r. r == 0) (exact_rest _ _ k some even))
    ∙ ap (ranged n.negative) (part_is _ _ k (exact_part _ _ k some even))

pub truncated_exact : (n : Numeral) (k : ℕ) → k * denominator n ≡ numerator n → truncated_value n ≡ ranged n.negative k
truncated_exact n k even = ap (ranged n.negative) (part_is _ _ k (exact_part _ _ k (denominator_some n) even))

whole_one : (n : Numeral) (v : Result ℤ NumberFault) → IsWholeValue n v → v ≡ whole_value n
whole_one n (Ok v) (k, (even, (same, range))) = ap (λ (z : ℤ). Ok z) same ∙ sym (whole_exact n k even ∙ ranged_in n.negative k (within n.negative k (subst InRange same range)))
whole_one n (Err Range) (k, (even, past)) = sym (whole_exact n k even ∙ ranged_out n.negative k (λ h. past (in_range n.negative k h)))
whole_one n (Err Fraction) none =
    sym (cond-false (numerator n % denominator n == 0) _ _ (ne_eqb _ 0 (λ e. none (numerator n / denominator n) (rest_exact _ _ (denominator_some n) e))))

-- The number of a text.

pub front_kept : (text front rest : List ℕ) (read : Option (Numeral × List ℕ)) → text ≡ front ++ rest → numeral_at text ≡ read → numeral_at (front ++ rest) ≡ read
front_kept text front rest read parted e = ap numeral_at (sym parted) ∙ e

pub read_longest : (text : List ℕ) (n : Numeral) (rest : List ℕ) → numeral_at text ≡ Some (n, rest) → IsLongestFront text n rest
read_longest text n rest e = record {
  front = numeral_sound text n rest e;
  longest = λ m behind f. numeral_longest f.front m behind f.is (n, rest) (front_kept text f.front behind (Some (n, rest)) f.parted e);
}

read_meant : (value : Numeral → Result ℤ NumberFault) (IsValue : Numeral → Result ℤ NumberFault → Type 0) → ((n : Numeral) → IsValue n (value n)) →
    (text : List ℕ) (read : Option (Numeral × List ℕ)) → numeral_at text ≡ read → IsNumberOf IsValue text (of_front value read)
read_meant value IsValue meant text None e = inr record {
  none = λ n rest f. numeral_some f.front n rest f.is (front_kept text f.front rest None f.parted e);
  zero = refl;
}
read_meant value IsValue meant text (Some (n, rest)) e = inl record { numeral = n; rest = rest; longest = read_longest text n rest e; value = meant n }

-- two prefixes that leave equally much are one
one_front : (text a b x y : List ℕ) → text ≡ a ++ x → text ≡ b ++ y → length x ≡ length y → a ≡ b
one_front text a b x y p q e =
    let same : length a ≡ length b = omega (arith, ap length p, ap length q, length-append a x, length-append b y) in
    sym (take-append_seam a x) ∙ ap (take (length a)) (sym p) ∙ ap (λ n. take n text) same ∙ ap (take (length b)) q ∙ take-append_seam b y

abbrev numeral_or : Numeral → Option (Numeral × List ℕ) → Numeral
numeral_or m None = m
numeral_or m (Some read) = read.0

pub one_numeral : (text : List ℕ) (m n : Numeral) → IsNumberText text m → IsNumberText text n → m ≡ n
one_numeral text m n p q =
    let at : List ℕ → Option (Numeral × List ℕ) = numeral_at in
    let first : at text ≡ Some (m, []) = ap at (sym (append-nil text)) ∙ numeral_exact text m [] p end_stops in
    let second : at text ≡ Some (n, []) = ap at (sym (append-nil text)) ∙ numeral_exact text n [] q end_stops in
    ap (numeral_or m) (sym first ∙ second)

pub longest_read : (text : List ℕ) (n m : Numeral) (rest behind : List ℕ) → IsLongestFront text n rest → numeral_at text ≡ Some (m, behind) → n ≡ m
longest_read text n m rest behind l e =
    let f = numeral_sound text m behind e in
    let g = l.front in
    let most : length rest ≤ length behind = l.longest m behind f in
    let least : length behind ≤ length rest = numeral_longest g.front n rest g.is (m, behind) (front_kept text g.front rest (Some (m, behind)) g.parted e) in
    let same : g.front ≡ f.front = one_front text g.front f.front rest behind g.parted f.parted (omega arith) in
    one_numeral f.front n m (subst (λ (t : List ℕ). IsNumberText t n) same g.is) f.is

read_one : (value : Numeral → Result ℤ NumberFault) (IsValue : Numeral → Result ℤ NumberFault → Type 0) → ((n : Numeral) (v : Result ℤ NumberFault) → IsValue n v → v ≡ value n) →
    (text : List ℕ) (read : Option (Numeral × List ℕ)) → numeral_at text ≡ read → (v : Result ℤ NumberFault) → IsNumberOf IsValue text v → v ≡ of_front value read
read_one value IsValue one text None e v (inl l) =
    let f = l.longest.front in absurd (numeral_some f.front l.numeral l.rest f.is (front_kept text f.front l.rest None f.parted e))
read_one value IsValue one text None e v (inr none) = none.zero
read_one value IsValue one text (Some (n, rest)) e v (inl l) = one l.numeral v l.value ∙ ap value (longest_read text l.numeral n l.rest rest l.longest e)
read_one value IsValue one text (Some (n, rest)) e v (inr none) = absurd (none.none n rest (numeral_sound text n rest e))

pub number_meant : (text : List ℕ) (v : Result ℤ NumberFault) → v ≡ number_of_text text → IsNumberOf IsWholeValue text v
number_meant text v e = subst (IsNumberOf IsWholeValue text) (sym e) (read_meant whole_value IsWholeValue whole_meant text (numeral_at text) refl)

pub truncated_number_meant : (text : List ℕ) (v : Result ℤ NumberFault) → v ≡ truncated_of_text text → IsNumberOf IsTruncatedValue text v
truncated_number_meant text v e = subst (IsNumberOf IsTruncatedValue text) (sym e) (read_meant truncated_value IsTruncatedValue truncated_meant text (numeral_at text) refl)

pub one_number : (text : List ℕ) (v : Result ℤ NumberFault) → IsNumberOf IsWholeValue text v → v ≡ number_of_text text
one_number text v h = read_one whole_value IsWholeValue whole_one text (numeral_at text) refl v h

pub one_truncated : (text : List ℕ) (v : Result ℤ NumberFault) → IsNumberOf IsTruncatedValue text v → v ≡ truncated_of_text text
one_truncated text v h = read_one truncated_value IsTruncatedValue truncated_one text (numeral_at text) refl v h

-- Number text with nothing but space bytes behind it.

looks_read : (text : List ℕ) (read : Option (Numeral × List ℕ)) → numeral_at text ≡ read → ends_in_spaces read ≡ true → IsNumericLooking text
looks_read text None e h = absurd (let wrong : false ≡ true = h in cc)
looks_read text (Some (n, rest)) e h = record {
  numeral = n;
  rest = rest;
  front = numeral_sound text n rest e;
  blank = all-count is_space rest (eqb-true (count_while is_space rest) (length rest) h);
}

pub looks_meant : (text : List ℕ) (b : Bool) → b ≡ looks_numeric_text text → IsTrue b ↔ IsNumericLooking text
looks_meant text b e = (
  λ yes. looks_read text (numeral_at text) refl (sym e ∙ yes),
  λ l. (
      let f = l.front in
      let read : numeral_at text ≡ Some (l.numeral, l.rest) = ap numeral_at f.parted ∙ numeral_exact f.front l.numeral l.rest f.is (spaces_stop l.rest l.blank) in
      e ∙ ap ends_in_spaces read ∙ eq-eqb _ _ (count-all is_space l.rest l.blank)
      ),
)
