-- The quotient and the rest of a numeral, from its digits before and behind the shifted point.
use Rattle.std.proofs.Common.{◌≡◌, ℕ, zero, suc, ◌+◌, ◌-◌, ◌*◌, ◌/◌, ◌%◌, ◌^◌, ◌<◌, ◌≤◌, min, Bool, true, false, List, ◌++◌, length, take, drop, append_assoc, length-append, length-drop, add-zero, refl, sym, ◌∙◌, ap, arith, subst, inl, inr}
use Rattle.std.specs.Prelude.{◌==◌, ◌&&◌, Some, not}
use Rattle.std.proofs.lemmas.Nat.{div-mul-add, mod-mul-add, pow-add}
use Rattle.std.proofs.lemmas.List.{take-append-drop}
use Rattle.std.proofs.lemmas.Bool.{cond-true, cond-false, cases_lt, ne_eqb, and_left}
use Rattle.std.proofs.Math.Nat.{add-mul, zero-mul, pow-le-pow_right, one-le-pow, mul-le-mul_left, mul-lt-mul_of_pos_right}
use Rattle.awk_text.specs.Reading.{AreDigits, Numeral, numeral_at}
use Rattle.awk_text.specs.Number.{has_nonzero_mantissa, is_nonzero_text, value_after, numerator, denominator, mantissa, scale}
use Rattle.awk_text.proofs.Values.{value_append, value_shift, value_below, digits_drop, digits_append}

-- a list of digits cut at n
pub value_cut : (n : ℕ) (ds : List ℕ) → value_after 0 ds ≡ value_after 0 (take n ds) * 10 ^ length (drop n ds) + value_after 0 (drop n ds)
value_cut n ds =
    ap (value_after 0) (sym (take-append-drop n ds)) ∙ value_append (take n ds) (drop n ds) 0 ∙ value_shift (drop n ds) (value_after 0 (take n ds))

-- two numbers that make nothing
none_made : (a b p : ℕ) → 0 < p → (a * p + b == 0) ≡ ((a == 0) && (b == 0))
none_made zero b p h = ap (λ n. n == 0) (omega arith)
none_made (suc a) b p h =
    let least : suc a * 1 ≤ suc a * p = mul-le-mul_left (suc a) (omega arith) in
    ne_eqb (suc a * p + b) 0 (λ e. absurd (omega arith)) ∙ sym (and_left (suc a == 0) (b == 0) (ne_eqb (suc a) 0 (λ e. absurd (omega arith))))

quotient : (n q d r : ℕ) → n ≡ q * d + r → r < d → (n / d ≡ q) × (n % d ≡ r)
quotient n q d r e h = (ap (λ m. m / d) e ∙ div-mul-add q d r h, ap (λ m. m % d) e ∙ mod-mul-add q d r h)

regroup_four : (a r t z : ℕ) → (a * r) * (t * z) ≡ (a * z) * (t * r)
regroup_four a r t z = grind arith

regroup : (a r lo x t z d : ℕ) → x ≡ t * z → d ≡ t * r → (a * r + lo) * x ≡ (a * z) * d + lo * x
regroup a r lo x t z d ex ed =
    let moved : (a * r) * x ≡ (a * z) * d = ap (λ m. (a * r) * m) ex ∙ regroup_four a r t z ∙ sym (ap (λ m. (a * z) * m) ed) in
    add-mul (a * r) lo x ∙ ap (λ m. m + lo * x) moved

same_power : (w : List ℕ) (s x keep k : ℕ) → length w < 2 ^ 64 - 1 → s ≡ min x (2 ^ 64 - 1) → keep ≡ length w - min (length w) s →
    value_after 0 (take keep w) * 10 ^ (min (length w) s + k) ≡ value_after 0 (take keep w) * 10 ^ (k + x)
same_power w s x keep k room es ek = elim (cases_lt (length w) s) [
  | inl past ↦ (let none : keep ≡ 0 = omega arith in subst (λ n. value_after 0 (take n w) * 10 ^ (min (length w) s + k) ≡ value_after 0 (take n w) * 10 ^ (k + x)) (sym none) (zero-mul (10 ^ (min (length w) s + k)) ∙ sym (zero-mul (10 ^ (k + x)))))
  | inr within ↦ ap (λ n. value_after 0 (take keep w) * 10 ^ n) (omega arith)
]

-- an exponent below 0
pub below : (w f : List ℕ) (s x keep : ℕ) → AreDigits w → AreDigits f → length w < 2 ^ 64 - 1 → s ≡ min x (2 ^ 64 - 1) → keep ≡ length w - min (length w) s →
    (value_after 0 (w ++ f) / 10 ^ (length f + x) ≡ value_after 0 (take keep w))
    × ((value_after 0 (w ++ f) % 10 ^ (length f + x) == 0) ≡ ((value_after 0 (drop keep w) == 0) && (value_after 0 f == 0)))
below w f s x keep dw df room es ek =
    let lo : ℕ = value_after 0 (drop keep w ++ f) in
    let q : ℕ = value_after 0 (take keep w) in
    let d : ℕ = 10 ^ (length f + x) in
    let len : length (drop keep w ++ f) ≡ min (length w) s + length f = omega (arith, length-append (drop keep w) f, length-drop keep w) in
    let few : lo < 10 ^ (min (length w) s + length f) = subst (λ k. lo < 10 ^ k) len (value_below (drop keep w ++ f) (digits_append (drop keep w) f (digits_drop keep w dw) df)) in
    let more : 10 ^ (min (length w) s + length f) ≤ d = pow-le-pow_right (omega arith) (omega arith) in
    let cut : value_after 0 (w ++ f) ≡ q * 10 ^ (min (length w) s + length f) + lo =
    ap (λ v. value_after 0 (v ++ f)) (sym (take-append-drop keep w)) ∙ ap (value_after 0) (append_assoc (take keep w) (drop keep w) f) ∙ value_append (take keep w) (drop keep w ++ f) 0
    ∙ value_shift (drop keep w ++ f) q ∙ ap (λ k. q * 10 ^ k + lo) len in
    let same : q * 10 ^ (min (length w) s + length f) ≡ q * d = same_power w s x keep (length f) room es ek in
    let both = quotient (value_after 0 (w ++ f)) q d lo (cut ∙ ap (λ m. m + lo) same) (omega arith) in
    (both.0, ap (λ m. m == 0) (both.1 ∙ value_append (drop keep w) f 0 ∙ value_shift f (value_after 0 (drop keep w))) ∙ none_made (value_after 0 (drop keep w)) (value_after 0 f) (10 ^ length f) (one-le-pow (length f) 10 (omega arith)))

and_true : (b : Bool) → (b && true) ≡ b
and_true true = refl
and_true false = refl

left_over : (lo r x len t : ℕ) → lo < 10 ^ r → r ≡ len - t → t ≡ min len x → lo * 10 ^ x < 10 ^ len
left_over lo r x len t few er et = elim (cases_lt t len) [
  | inl part ↦ (
      let power : 10 ^ len ≡ 10 ^ r * 10 ^ t = ap (λ k. 10 ^ k) (omega arith) ∙ pow-add 10 r t in
      let same : lo * 10 ^ x ≡ lo * 10 ^ t = ap (λ k. lo * 10 ^ k) (omega arith) in
      let below_it : lo * 10 ^ t < 10 ^ r * 10 ^ t = mul-lt-mul_of_pos_right few (one-le-pow t 10 (omega arith)) in
      omega arith)
  | inr all ↦ (
      let none : r ≡ 0 = omega arith in
      let one : lo < 1 = subst (λ k. lo < 10 ^ k) none few in
      let nothing : lo * 10 ^ x ≡ 0 = ap (λ m. m * 10 ^ x) (let e : lo ≡ 0 = omega arith in e) ∙ zero-mul (10 ^ x) in
      let some : 1 ≤ 10 ^ len = one-le-pow len 10 (omega arith) in
      omega arith)
]

-- an exponent from 0 on
pub above : (w f : List ℕ) (x t : ℕ) → AreDigits w → AreDigits f → t ≡ min (length f) x →
    (value_after 0 (w ++ f) * 10 ^ x / 10 ^ length f ≡ value_after (value_after 0 w) (take t f) * 10 ^ (x - t))
    × ((value_after 0 (w ++ f) * 10 ^ x % 10 ^ length f == 0) ≡ (value_after 0 (drop t f) == 0))
above w f x t dw df et =
    let a : ℕ = value_after (value_after 0 w) (take t f) in
    let lo : ℕ = value_after 0 (drop t f) in
    let r : ℕ = length (drop t f) in
    let len : r ≡ length f - t = length-drop t f in
    let few : lo < 10 ^ r = value_below (drop t f) (digits_drop t f df) in
    let cut : value_after 0 (w ++ f) ≡ a * 10 ^ r + lo =
    value_append w f 0 ∙ ap (value_after (value_after 0 w)) (sym (take-append-drop t f)) ∙ value_append (take t f) (drop t f) (value_after 0 w) ∙ value_shift (drop t f) a in
    let power : 10 ^ x ≡ 10 ^ t * 10 ^ (x - t) = ap (λ k. 10 ^ k) (omega arith) ∙ pow-add 10 t (x - t) in
    let whole : 10 ^ length f ≡ 10 ^ t * 10 ^ r = ap (λ k. 10 ^ k) (omega arith) ∙ pow-add 10 t r in
    let made : value_after 0 (w ++ f) * 10 ^ x ≡ (a * 10 ^ (x - t)) * 10 ^ length f + lo * 10 ^ x =
    ap (λ v. v * 10 ^ x) cut ∙ regroup a (10 ^ r) lo (10 ^ x) (10 ^ t) (10 ^ (x - t)) (10 ^ length f) power whole in
    let left : lo * 10 ^ x < 10 ^ length f = left_over lo r x (length f) t few len et in
    let both = quotient (value_after 0 (w ++ f) * 10 ^ x) (a * 10 ^ (x - t)) (10 ^ length f) (lo * 10 ^ x) made left in
    (both.0, ap (λ m. m == 0) (both.1 ∙ sym (add-zero (lo * 10 ^ x))) ∙ none_made lo 0 (10 ^ x) (one-le-pow x 10 (omega arith)) ∙ and_true (lo == 0))

-- the same of a numeral
pub below_numeral : (n : Numeral) (s keep : ℕ) → n.exponent_negative ≡ true → AreDigits n.whole → AreDigits n.fraction → length n.whole < 2 ^ 64 - 1 → s ≡ min (scale n) (2 ^ 64 - 1) → keep ≡ length n.whole - min (length n.whole) s →
    (numerator n / denominator n ≡ value_after 0 (take keep n.whole))
    × ((numerator n % denominator n == 0) ≡ ((value_after 0 (drop keep n.whole) == 0) && (value_after 0 n.fraction == 0)))
unfolding numerator denominator
below_numeral n s keep neg dw df room es ek =
    let both = below n.whole n.fraction s (scale n) keep dw df room es ek in
    let up : numerator n ≡ mantissa n = cond-true n.exponent_negative (mantissa n) (mantissa n * 10 ^ scale n) neg in
    let down : denominator n ≡ 10 ^ (length n.fraction + scale n) = cond-true n.exponent_negative (10 ^ (length n.fraction + scale n)) (10 ^ length n.fraction) neg in
    (ap (λ m. m / denominator n) up ∙ ap (λ m. mantissa n / m) down ∙ both.0, ap (λ m. m % denominator n == 0) up ∙ ap (λ m. mantissa n % m == 0) down ∙ both.1)

pub above_numeral : (n : Numeral) (t : ℕ) → n.exponent_negative ≡ false → AreDigits n.whole → AreDigits n.fraction → t ≡ min (length n.fraction) (scale n) →
    (numerator n / denominator n ≡ value_after (value_after 0 n.whole) (take t n.fraction) * 10 ^ (scale n - t))
    × ((numerator n % denominator n == 0) ≡ (value_after 0 (drop t n.fraction) == 0))
unfolding numerator denominator
above_numeral n t neg dw df et =
    let both = above n.whole n.fraction (scale n) t dw df et in
    let up : numerator n ≡ mantissa n * 10 ^ scale n = cond-false n.exponent_negative (mantissa n) (mantissa n * 10 ^ scale n) neg in
    let down : denominator n ≡ 10 ^ length n.fraction = cond-false n.exponent_negative (10 ^ (length n.fraction + scale n)) (10 ^ length n.fraction) neg in
    (ap (λ m. m / denominator n) up ∙ ap (λ m. (mantissa n * 10 ^ scale n) / m) down ∙ both.0, ap (λ m. m % denominator n == 0) up ∙ ap (λ m. (mantissa n * 10 ^ scale n) % m == 0) down ∙ both.1)

-- a mantissa is 0 where its digits before and behind the point are
pub mantissa_zero : (n : Numeral) → (mantissa n == 0) ≡ ((value_after 0 n.whole == 0) && (value_after 0 n.fraction == 0))
mantissa_zero n =
    ap (λ m. m == 0) (value_append n.whole n.fraction 0 ∙ value_shift n.fraction (value_after 0 n.whole))
    ∙ none_made (value_after 0 n.whole) (value_after 0 n.fraction) (10 ^ length n.fraction) (one-le-pow (length n.fraction) 10 (omega arith))

pub nonzero_read : (text : List ℕ) (n : Numeral) (rest : List ℕ) (b : Bool) → Some (n, rest) ≡ numeral_at text → b ≡ ((value_after 0 n.whole == 0) && (value_after 0 n.fraction == 0)) → not b ≡ is_nonzero_text text
nonzero_read text n rest b e zeros = ap not (zeros ∙ sym (mantissa_zero n)) ∙ ap has_nonzero_mantissa e
