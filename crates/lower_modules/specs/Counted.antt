-- Numbers that are counted up to the largest of 32 bits.
use Rattle.std.specs.Prelude.{ℕ, ◌-◌, ◌^◌, min}

abbrev pub counted : ℕ → ℕ
counted number = min number (2 ^ 32 - 1)
