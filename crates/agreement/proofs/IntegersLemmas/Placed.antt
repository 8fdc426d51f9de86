-- Rotations, and counts of bits.
use Rattle.std.proofs.Common.{◌≡◌, ◌⊎◌, inl, inr, ◌<◌, ◌≤◌, ℕ, zero, suc, ◌+◌, ◌-◌, ◌*◌, ◌/◌, ◌%◌, ◌^◌, refl, sym, ap, ap₂, subst, ◌∙◌, arith}
use Rattle.std.specs.Prelude.{bit_or, count_ones}
use Rattle.std.specs.Int.{Width, w8, w16, w32, w64, w128, leading_zeros, trailing_zeros}
use Rattle.std.specs.Int.Count.{ones-ones, trailing_of_zero}
use Rattle.std.specs.Int.Bits.{or_self}
use mir.Val.{bits}
use Rattle.std.proofs.lemmas.Nat.{pow-add, pow_pos, div_below, mod_below, mod_low, mod-mul-add, shl_below, shr_below, or_comm, or_shifted, leading_length, trailing_le, ones_cat, ones_le_self, div-add-mod'}
use Rattle.std.proofs.lemmas.Nat.Bits.{bit_at_cat_low, bit_at-trailing_zeros, bit_at-zero}
use Rattle.std.proofs.Math.Nat.{add-mul, mul_assoc, pow-suc}
use Rattle.wasm_store.specs.IntegerParts.{rotated_left, rotated_right}
use Rattle.agreement.specs.Integers.Bits.{IsRotatedLeft, HasLeadingZeros, HasTrailingZeros, ones_in_last}

positive : (w : Width) → 0 < bits w
positive w8 = omega arith
positive w16 = omega arith
positive w32 = omega arith
positive w64 = omega arith
positive w128 = omega arith

small : (n m : ℕ) → n < m → n % m ≡ n
small n m h = ap (λ k. k % m) {x = n} {y = 0 * m + n} (omega arith) ∙ mod-mul-add 0 m n h

itself : (m : ℕ) → 0 < m → m % m ≡ 0
itself m h = ap (λ k. k % m) {x = m} {y = 1 * m + 0} (omega arith) ∙ mod-mul-add 1 m 0 h

-- the low part moves left, the high part falls out
moved : (j n a : ℕ) → (a * 2 ^ n) % 2 ^ (j + n) ≡ (a % 2 ^ j) * 2 ^ n
moved j n a =
    let split = div-add-mod' a (2 ^ j) in
    let low = mod_below a (2 ^ j) (pow_pos j) in
    let parts : a * 2 ^ n ≡ (a / 2 ^ j) * 2 ^ (j + n) + (a % 2 ^ j) * 2 ^ n
    = ap (λ k. k * 2 ^ n) (sym split)
    ∙ (spread (a / 2 ^ j) (2 ^ j) (a % 2 ^ j) (2 ^ n) ∙ ap (λ k. (a / 2 ^ j) * k + (a % 2 ^ j) * 2 ^ n) (sym (pow-add 2 j n))) in
    ap (λ k. k % 2 ^ (j + n)) parts ∙ mod_low (a / 2 ^ j) (j + n) ((a % 2 ^ j) * 2 ^ n) (shl_below (a % 2 ^ j) j n low)
  where
    spread : (h p l q : ℕ) → (h * p + l) * q ≡ h * (p * q) + l * q
    spread h p l q = add-mul (h * p) l q ∙ ap (λ k. k + l * q) (mul_assoc h p q)

turned : (j n a : ℕ) → a < 2 ^ (n + j)
    → bit_or ((a * 2 ^ n) % 2 ^ (j + n)) (a / 2 ^ j) ≡ (a % 2 ^ j) * 2 ^ n + a / 2 ^ j
turned j n a l =
    ap (λ k. bit_or k (a / 2 ^ j)) (moved j n a) ∙ or_shifted (a % 2 ^ j) n (a / 2 ^ j) (shr_below a n j l)

-- a rotation by n, of N bits
abbrev rotation : ℕ → ℕ → ℕ → ℕ
rotation N a n = bit_or ((a * 2 ^ (n % N)) % 2 ^ N) (a / 2 ^ ((N - n % N) % N))

by_none : (N a n : ℕ) → 0 < N → n ≡ 0 → a < 2 ^ N → rotation N a n ≡ a * 2 ^ n + 0
by_none N a n h z l =
    let s : n % N ≡ 0 = ap (λ k. k % N) z ∙ small 0 N h in
    let left : (a * 2 ^ (n % N)) % 2 ^ N ≡ a
    = ap (λ k. (a * 2 ^ k) % 2 ^ N) s ∙ (ap (λ k. k % 2 ^ N) {x = a * 2 ^ 0} {y = a} (omega arith) ∙ small a (2 ^ N) l) in
    let none : (N - n % N) % N ≡ 0 = ap (λ k. k % N) {x = N - n % N} {y = N} (omega arith) ∙ itself N h in
    let right : a / 2 ^ ((N - n % N) % N) ≡ a = ap (λ k. a / 2 ^ k) none ∙ whole in
    ap₂ bit_or left right ∙ (or_self a ∙ (ends ∙ ap (λ k. a * 2 ^ k + 0) (sym z)))
  where
    whole : a / 2 ^ 0 ≡ a
    whole = omega arith

    ends : a ≡ a * 2 ^ 0 + 0
    ends = omega arith

by_some : (N a n : ℕ) → 0 < n → n < N → a < 2 ^ N → rotation N a n ≡ (a % 2 ^ (N - n)) * 2 ^ n + a / 2 ^ (N - n)
by_some N a n h k l =
    let s : n % N ≡ n = small n N k in
    let t : (N - n % N) % N ≡ N - n = ap (λ m. (N - m) % N) s ∙ small (N - n) N (omega arith) in
    ap₂ (λ m i. bit_or ((a * 2 ^ m) % 2 ^ N) (a / 2 ^ i)) s t
    ∙ (ap (λ m. bit_or ((a * 2 ^ n) % 2 ^ m) (a / 2 ^ (N - n))) {x = N} {y = (N - n) + n} (omega arith)
    ∙ turned (N - n) n a (subst (λ m. a < 2 ^ m) {x = N} {y = n + (N - n)} (omega arith) l))

rotated : (N a n : ℕ) → 0 < N → n < N → a < 2 ^ N
    → (high low : ℕ) × (low < 2 ^ (N - n)) × (a ≡ high * 2 ^ (N - n) + low) × (rotation N a n ≡ low * 2 ^ n + high)
rotated N a zero h k l =
    (0, a, subst (λ m. a < 2 ^ m) {x = N} {y = N - 0} (omega arith) l, omega arith, by_none N a 0 h refl l)
rotated N a (suc n) h k l = (
  a / 2 ^ (N - suc n),
  a % 2 ^ (N - suc n),
  mod_below a (2 ^ (N - suc n)) (pow_pos (N - suc n)),
  sym (div-add-mod' a (2 ^ (N - suc n))),
  by_some N a (suc n) (omega arith) k l,
)

pub rotates : (w : Width) (a b : ℕ) → a < 2 ^ bits w → IsRotatedLeft w (b % bits w) a (rotated_left w a b)
rotates w a b la =
    let r = rotated (bits w) a (b % bits w) (positive w) (mod_below b (bits w) (positive w)) la in
    record { high = r.0; low = r.1; low_below = r.2; parts = r.3; turned_parts = r.4 }

-- the other way: the low part moves right
right_by_none : (N a : ℕ) → 0 < N → a < 2 ^ N → bit_or (a / 2 ^ (0 % N)) ((a * 2 ^ ((N - 0 % N) % N)) % 2 ^ N) ≡ a
right_by_none N a h l =
    let s : 0 % N ≡ 0 = small 0 N h in
    let none : (N - 0 % N) % N ≡ 0 = ap (λ k. k % N) {x = N - 0 % N} {y = N} (omega arith) ∙ itself N h in
    let left : a / 2 ^ (0 % N) ≡ a = ap (λ k. a / 2 ^ k) s ∙ whole in
    let right : (a * 2 ^ ((N - 0 % N) % N)) % 2 ^ N ≡ a
    = ap (λ k. (a * 2 ^ k) % 2 ^ N) none ∙ (ap (λ k. k % 2 ^ N) {x = a * 2 ^ 0} {y = a} (omega arith) ∙ small a (2 ^ N) l) in
    ap₂ bit_or left right ∙ or_self a
  where
    whole : a / 2 ^ 0 ≡ a
    whole = omega arith

right_by_some : (N a n : ℕ) → 0 < n → n < N → a < 2 ^ N
    → bit_or (a / 2 ^ (n % N)) ((a * 2 ^ ((N - n % N) % N)) % 2 ^ N) ≡ (a % 2 ^ n) * 2 ^ (N - n) + a / 2 ^ n
right_by_some N a n h k l =
    let s : n % N ≡ n = small n N k in
    let t : (N - n % N) % N ≡ N - n = ap (λ m. (N - m) % N) s ∙ small (N - n) N (omega arith) in
    let low : a / 2 ^ n < 2 ^ (N - n) = shr_below a (N - n) n (subst (λ m. a < 2 ^ m) {x = N} {y = (N - n) + n} (omega arith) l) in
    let high : (a * 2 ^ (N - n)) % 2 ^ N ≡ (a % 2 ^ n) * 2 ^ (N - n)
    = ap (λ m. (a * 2 ^ (N - n)) % 2 ^ m) {x = N} {y = n + (N - n)} (omega arith) ∙ moved n (N - n) a in
    ap₂ (λ m i. bit_or (a / 2 ^ m) ((a * 2 ^ i) % 2 ^ N)) s t
    ∙ (ap (bit_or (a / 2 ^ n)) high ∙ (or_comm (a / 2 ^ n) ((a % 2 ^ n) * 2 ^ (N - n)) ∙ or_shifted (a % 2 ^ n) (N - n) (a / 2 ^ n) low))

rotated_back : (w : Width) (n a : ℕ) → n < bits w → a < 2 ^ bits w
    → IsRotatedLeft w n (bit_or (a / 2 ^ (n % bits w)) ((a * 2 ^ ((bits w - n % bits w) % bits w)) % 2 ^ bits w)) a
rotated_back w zero a k l = record {
  high = 0;
  low = a;
  low_below = subst (λ m. a < 2 ^ m) {x = bits w} {y = bits w - 0} (omega arith) l;
  parts = right_by_none (bits w) a (positive w) l ∙ none;
  turned_parts = ends;
}
  where
    none : a ≡ 0 * 2 ^ (bits w - 0) + a
    none = omega arith

    ends : a ≡ a * 2 ^ 0 + 0
    ends = omega arith
rotated_back w (suc n) a k l = record {
  high = a % 2 ^ suc n;
  low = a / 2 ^ suc n;
  low_below = shr_below a (bits w - suc n) (suc n) (subst (λ m. a < 2 ^ m) {x = bits w} {y = (bits w - suc n) + suc n} (omega arith) l);
  parts = right_by_some (bits w) a (suc n) (omega arith) k l;
  turned_parts = sym (div-add-mod' a (2 ^ suc n));
}

pub rotates_back : (w : Width) (a b : ℕ) → a < 2 ^ bits w → IsRotatedLeft w (b % bits w) (rotated_right w a b) a
rotates_back w a b la = rotated_back w (b % bits w) a (mod_below b (bits w) (positive w)) la

-- ---- counts of bits

zeros : (N a n m : ℕ) → n + m ≡ N → a < 2 ^ m → 2 ^ m ≤ 2 * a + 1 → (a < 2 ^ (N - n)) × ((n ≡ N) ⊎ (2 ^ (N - suc n) ≤ a))
zeros N a n zero e l g = (subst (λ k. a < 2 ^ k) {x = 0} {y = N - n} (omega arith) l, inl (omega arith))
zeros N a n (suc m) e l g = (
  subst (λ k. a < 2 ^ k) {x = suc m} {y = N - n} (omega arith) l,
  inr (subst (λ k. 2 ^ k ≤ a) {x = m} {y = N - suc n} (omega arith) (let p = pow-suc 2 m in omega arith)),
)

pub zeros_lead : (w : Width) (a : ℕ) → a < 2 ^ bits w → HasLeadingZeros w a (leading_zeros w a)
zeros_lead w a la =
    let h = leading_length (bits w) a la in
    let z = zeros (bits w) a (leading_zeros w a) h.0 h.1 h.2 h.3 in
    record { most = omega arith; below = z.0; next = z.1 }

pub zeros_trail : (w : Width) (a : ℕ) → a < 2 ^ bits w → HasTrailingZeros w a (trailing_zeros w a)
zeros_trail w zero la =
    let none = trailing_of_zero (bits w) in
    record { most = trailing_le (bits w) 0; zeros = λ i l. bit_at-zero i; next = inl none }
zeros_trail w (suc a) la =
    let h = bit_at-trailing_zeros w (suc a) (omega arith) la in
    record { most = trailing_le (bits w) (suc a); zeros = h.2; next = inr h.1 }

one_bit : (h : ℕ) → h < 2 → count_ones h ≡ h
one_bit zero l = let s = ones_le_self 0 in omega arith
one_bit (suc zero) l = ones-ones 1
one_bit (suc (suc h)) l = absurd (omega arith)

-- the bits below n are those of the rest by 2^n
same_last : (h r n : ℕ) (k : ℕ) → k ≤ n → ones_in_last k r ≡ ones_in_last k (h * 2 ^ n + r)
same_last h r n zero l = refl
same_last h r n (suc k) l = ap₂ ◌+◌ (sym (bit_at_cat_low h n r k l)) (same_last h r n k (omega arith))

pub ones_counted : (n a : ℕ) → a < 2 ^ n → count_ones a ≡ ones_in_last n a
ones_counted zero a l = let s = ones_le_self a in let one : 2 ^ 0 ≡ 1 = refl in omega arith
ones_counted (suc n) a l =
    let p = pow-suc 2 n in
    let high : a / 2 ^ n < 2 = div_below a (2 ^ n) 2 (pow_pos n) (omega arith) in
    let low = mod_below a (2 ^ n) (pow_pos n) in
    let parts = div-add-mod' a (2 ^ n) in
    let bit : a / 2 ^ n % 2 ≡ a / 2 ^ n = small (a / 2 ^ n) 2 high in
    ap count_ones (sym parts)
    ∙ (ones_cat n (a / 2 ^ n) (a % 2 ^ n) low
    ∙ ap₂ ◌+◌ (one_bit (a / 2 ^ n) high ∙ sym bit)
    (ones_counted n (a % 2 ^ n) low
    ∙ (same_last (a / 2 ^ n) (a % 2 ^ n) n n (omega arith) ∙ ap (ones_in_last n) parts)))
