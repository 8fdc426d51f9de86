-- Sums, differences and products modulo 2^N, and two's complement.
use Rattle.std.proofs.Common.{◌≡◌, ◌⊎◌, inl, inr, ◌<◌, ◌≤◌, ℕ, zero, suc, Bool, true, false, ◌+◌, ◌-◌, ◌*◌, ◌/◌, ◌%◌, ◌^◌, refl, sym, ap, ◌∙◌, arith}
use Rattle.std.specs.Prelude.{ℤ, pos, negsuc, neg_ℤ, ◌≤ℤ◌, ◌<ℤ◌, ◌+ℤ◌, nat_lt, FitsSigned}
use Rattle.std.specs.Int.{Width, cast_signed, cast_unsigned}
use lib.Signed.{mag}
use mir.Val.{bits, hbits, sel}
use Rattle.std.proofs.Math.Facts.{sfits_to_z}
use Rattle.std.proofs.Math.Nat.{pow-le-pow_right}
use Rattle.std.proofs.lemmas.Bool.{cases_lt}
use Rattle.std.proofs.lemmas.Nat.{pow_pos, mod_below, mod-mul-add, div-add-mod'}
use Rattle.std.proofs.lemmas.Int.{ints, to_z-of_z}
use Rattle.agreement.specs.Integers.Arithmetic.{IsLeft, IsTwosComplement}

pub left : (w : Width) (n : ℕ) → IsLeft w n (n % 2 ^ bits w)
left w n = record { below = mod_below n (2 ^ bits w) (pow_pos (bits w)); times = n / 2 ^ bits w; equation = sym (div-add-mod' n (2 ^ bits w)) }

-- what is added to b gives a, or m more
difference : (a b m : ℕ) → a < m → b < m → (k : ℕ) × (b + (a + (m - b)) % m ≡ k * m + a)
difference a b m la lb = by (cases_lt a b)
  where
    by : (a < b) ⊎ (b ≤ a) → (k : ℕ) × (b + (a + (m - b)) % m ≡ k * m + a)
    by (inl l) =
        let e : (0 * m + (a + (m - b))) % m ≡ a + (m - b) = mod-mul-add 0 m (a + (m - b)) (omega arith) in
        let f : (a + (m - b)) % m ≡ a + (m - b) = ap (λ n. n % m) {x = a + (m - b)} {y = 0 * m + (a + (m - b))} (omega arith) ∙ e in
        (1, omega arith)
    by (inr l) =
        let e : (1 * m + (a - b)) % m ≡ a - b = mod-mul-add 1 m (a - b) (omega arith) in
        let f : (a + (m - b)) % m ≡ a - b = ap (λ n. n % m) {x = a + (m - b)} {y = 1 * m + (a - b)} (omega arith) ∙ e in
        (0, omega arith)

pub difference_left : (w : Width) (a b : ℕ) → a < 2 ^ bits w → b < 2 ^ bits w
    → ((a + (2 ^ bits w - b)) % 2 ^ bits w < 2 ^ bits w) × IsLeft w (b + (a + (2 ^ bits w - b)) % 2 ^ bits w) a
difference_left w a b la lb =
    let d = difference a b (2 ^ bits w) la lb in
    (mod_below (a + (2 ^ bits w - b)) (2 ^ bits w) (pow_pos (bits w)), record { below = la; times = d.0; equation = d.1 })

in_bounds : (half : ℕ) → 0 < half → (z : ℤ) → mag z < half → (neg_ℤ (pos half) ≤ℤ z) × (z <ℤ pos half)
in_bounds zero h z l = absurd (omega arith)
in_bounds (suc half) h (pos n) l = (omega (arith, ints), omega (arith, ints))
in_bounds (suc half) h (negsuc n) l = (omega (arith, ints), omega (arith, ints))

same_pattern : (m a : ℕ) → a < m → (t : Bool) → (pos a ≡ sel t (pos a) (negsuc (m - suc a))) ⊎ (pos a ≡ sel t (pos a) (negsuc (m - suc a)) +ℤ pos m)
same_pattern m a h true = inl refl
same_pattern m a h false = inr (omega (arith, ints))

pub signed_fits : (w : Width) (a : ℕ) → a < 2 ^ bits w → FitsSigned w (cast_signed w a)
signed_fits w a h = sfits_to_z record { fits = h }

pub twos_complement : (w : Width) (a : ℕ) → a < 2 ^ bits w → IsTwosComplement w a (cast_signed w a)
twos_complement w a h =
    let f = signed_fits w a h in
    let b = in_bounds (2 ^ hbits w) (pow_pos (hbits w)) (cast_signed w a) f.sfits in
    record { least = b.0; greatest = b.1; same = same_pattern (2 ^ bits w) a h (nat_lt a (2 ^ hbits w)) }

-- the integer of the low bits, in more bits
pub extends : (m n : Width) (a : ℕ) → hbits m ≤ hbits n → a < 2 ^ bits m → cast_signed n (cast_unsigned n (cast_signed m a)) ≡ cast_signed m a
extends m n a h l =
    let f = signed_fits m a l in
    let s = f.sfits in
    let more : 2 ^ hbits m ≤ 2 ^ hbits n = pow-le-pow_right (omega arith) h in
    to_z-of_z n (cast_signed m a) record { sfits = omega arith }
