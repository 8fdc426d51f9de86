-- What the operators on integers give, by equations (Core 1.0, section 4.3.2). An integer of N bits is its bit pattern, a number below 2^N.
use Rattle.std.specs.Prelude.{◌≡◌, ◌⊎◌, ◌<◌, ◌≤ℤ◌, ◌<ℤ◌, ◌+ℤ◌, ◌*ℤ◌, ℕ, ℤ, pos, neg_ℤ, unsigned_abs, ◌+◌, ◌*◌, ◌^◌}
use mir.Val.{bits, hbits}
use Rattle.std.specs.Int.{Width}

-- what is left of a number modulo 2^N
pub record IsLeft (w : Width) (n left : ℕ) : Type 0 where
  pub below : left < 2 ^ bits w
  pub times : ℕ
  pub equation : n ≡ times * 2 ^ bits w + left

-- the signed integer of a bit pattern: the pattern's number or 2^N less, from -2^(N-1) to 2^(N-1) - 1
pub record IsTwosComplement (w : Width) (pattern : ℕ) (z : ℤ) : Type 0 where
  pub least : neg_ℤ (pos (2 ^ hbits w)) ≤ℤ z
  pub greatest : z <ℤ pos (2 ^ hbits w)
  pub same : (pos pattern ≡ z) ⊎ (pos pattern ≡ z +ℤ pos (2 ^ bits w))

-- quotient and remainder
pub record IsDivided (n by quotient remainder : ℕ) : Type 0 where
  pub equation : n ≡ quotient * by + remainder
  pub below : remainder < by

-- of signed integers: the quotient rounds towards 0, so the remainder lies on the dividend's side of 0
pub record IsDividedSigned (x by quotient remainder : ℤ) : Type 0 where
  pub equation : x ≡ (quotient *ℤ by) +ℤ remainder
  pub below : unsigned_abs remainder < unsigned_abs by
  pub above_zero : pos 0 ≤ℤ x → pos 0 ≤ℤ remainder
  pub below_zero : x ≤ℤ pos 0 → remainder ≤ℤ pos 0

-- of a signed integer, rounded downwards: the remainder is not below 0
pub record IsDividedDown (x : ℤ) (by : ℕ) (quotient : ℤ) : Type 0 where
  pub remainder : ℕ
  pub equation : x ≡ (quotient *ℤ pos by) +ℤ pos remainder
  pub below : remainder < by
