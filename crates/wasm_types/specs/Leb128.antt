-- Integers of 7 bits a byte.
use Rattle.std.specs.Prelude.{◌≡◌, ◌^◌, ℕ, ◌+◌, ◌*◌, ◌<◌, ◌≤◌, List, [], ◌∷◌, length, ◌⊎◌}

-- bytes from 128 on go on; the number, and the weight of the next group
abbrev pub IsRaw : List ℕ → ℕ → ℕ → Type 0
IsRaw [] n w = ⊥
IsRaw (b ∷ bs) n w = ((b < 128) × (bs ≡ []) × (n ≡ b) × (w ≡ 128))
    ⊎ ((128 ≤ b) × (b < 256) × (high : ℕ) × (v : ℕ) × IsRaw bs high v × (n + 128 ≡ b + 128 * high) × (w ≡ 128 * v))

-- an unsigned number below limit, in at most so many bytes
pub record IsUnsigned (most limit : ℕ) (text : List ℕ) (n : ℕ) : Type 0 where
  pub weight : ℕ
  pub raw : IsRaw text n weight
  pub len : length text ≤ most
  pub small : n < limit

-- the number n below 2 * half is two's complement of what the groups are, by the sign of the first
abbrev pub Extends : ℕ → ℕ → ℕ → ℕ → Type 0
Extends half raw weight n = ((2 * raw < weight) × (n ≡ raw) × (n < half))
    ⊎ ((weight ≤ 2 * raw) × (raw < weight) × (half ≤ n) × (n < 2 * half) × (n + weight ≡ raw + 2 * half))

pub record IsSigned (most half : ℕ) (text : List ℕ) (n : ℕ) : Type 0 where
  pub number : ℕ
  pub weight : ℕ
  pub raw : IsRaw text number weight
  pub len : length text ≤ most
  pub sign : Extends half number weight n

abbrev pub IsU32 : List ℕ → ℕ → Type 0
IsU32 text n = IsUnsigned 5 (2 ^ 32) text n

abbrev pub IsS32 : List ℕ → ℕ → Type 0
IsS32 text n = IsSigned 5 (2 ^ 31) text n

abbrev pub IsS64 : List ℕ → ℕ → Type 0
IsS64 text n = IsSigned 10 (2 ^ 63) text n
