-- What the operators on integers do to bits (Core 1.0, section 4.3.2).
use Rattle.std.specs.Prelude.{◌≡◌, ◌⊎◌, ◌<◌, ◌≤◌, ℕ, zero, suc, ◌+◌, ◌-◌, ◌*◌, ◌^◌}
use mir.Val.{bits}
use Rattle.std.specs.Int.{Width, bit_at}

-- each bit is made of the two bits at its place
abbrev pub IsBitwise : (ℕ → ℕ → ℕ) → ℕ → ℕ → ℕ → Type 0
IsBitwise of a b c = (i : ℕ) → bit_at c i ≡ of (bit_at a i) (bit_at b i)

-- the highest n bits are at the right end, behind the others
pub record IsRotatedLeft (w : Width) (n a turned : ℕ) : Type 0 where
  pub high : ℕ
  pub low : ℕ
  pub low_below : low < 2 ^ (bits w - n)
  pub parts : a ≡ high * 2 ^ (bits w - n) + low
  pub turned_parts : turned ≡ low * 2 ^ n + high

-- the first n bits of N are 0, and the next one, if there is one, is 1
pub record HasLeadingZeros (w : Width) (a n : ℕ) : Type 0 where
  pub most : n ≤ bits w
  pub below : a < 2 ^ (bits w - n)
  pub next : (n ≡ bits w) ⊎ (2 ^ (bits w - suc n) ≤ a)

-- the last n bits are 0, and the next one, if there is one, is 1
pub record HasTrailingZeros (w : Width) (a n : ℕ) : Type 0 where
  pub most : n ≤ bits w
  pub zeros : (i : ℕ) → i < n → bit_at a i ≡ 0
  pub next : (n ≡ bits w) ⊎ (bit_at a n ≡ 1)

-- how many of the last n bits are 1
abbrev pub ones_in_last : ℕ → ℕ → ℕ
ones_in_last zero a = 0
ones_in_last (suc n) a = bit_at a n + ones_in_last n a
