-- Integers of 7 bits a byte, computed: readers, and the shortest bytes.
use Rattle.std.specs.Int.{Width, cast_unsigned}
use Rattle.std.specs.Prelude.{◌≡◌, ◌^◌, ℤ, ℕ, zero, suc, ◌+◌, ◌-◌, ◌*◌, ◌/◌, ◌%◌, List, [], ◌∷◌, Option, Some, None, nat_lt, nat_le, ◌||◌, ◌&&◌, if◌then◌else◌}

-- what a reader answered: the number n, at the front in so many bytes
abbrev pub IsRead : Option (ℕ × ℕ) → ℕ → ℕ → Type 0
IsRead None n len = ⊥
IsRead (Some x) n len = (x.0 ≡ n) × (x.1 ≡ len)

-- the same for a signed number with the bit pattern n
abbrev pub IsReadAs : Width → Option (ℤ × ℕ) → ℕ → ℕ → Type 0
IsReadAs w None n len = ⊥
IsReadAs w (Some x) n len = (cast_unsigned w x.0 ≡ n) × (x.1 ≡ len)

abbrev pub and_then : {A B : Type 0} → Option A → (A → Option B) → Option B
and_then None f = None
and_then (Some x) f = f x

abbrev pub raw_at : ℕ → List ℕ → Option (ℕ × ℕ × List ℕ)
raw_at zero bytes = None
raw_at (suc m) [] = None
raw_at (suc m) (b ∷ bytes) =
    if nat_lt b 128 then Some (b, 128, bytes) else
    if nat_lt b 256 then and_then (raw_at m bytes) (λ x. Some ((b - 128) + 128 * x.0, 128 * x.1, x.2)) else None

abbrev pub unsigned_of : ℕ → ℕ × ℕ × List ℕ → Option (ℕ × List ℕ)
unsigned_of limit x = if nat_lt x.0 limit then Some (x.0, x.2) else None

abbrev pub unsigned_at : ℕ → ℕ → List ℕ → Option (ℕ × List ℕ)
unsigned_at most limit bytes = and_then (raw_at most bytes) (unsigned_of limit)

abbrev pub signed_of : ℕ → ℕ × ℕ × List ℕ → Option (ℕ × List ℕ)
signed_of half x =
    if nat_lt (2 * x.0) x.1 then (if nat_lt x.0 half then Some (x.0, x.2) else None) else
    if nat_le (x.1 + half) (x.0 + 2 * half) && nat_lt x.0 x.1 then Some ((x.0 + 2 * half) - x.1, x.2) else None

abbrev pub signed_at : ℕ → ℕ → List ℕ → Option (ℕ × List ℕ)
signed_at most half bytes = and_then (raw_at most bytes) (signed_of half)

-- the shortest bytes
abbrev pub unsigned_text : ℕ → ℕ → List ℕ
unsigned_text zero n = []
unsigned_text (suc m) n = if nat_lt n 128 then n ∷ [] else (n % 128 + 128) ∷ unsigned_text m (n / 128)

abbrev pub signed_text : ℕ → ℕ → ℕ → List ℕ
signed_text zero half n = []
signed_text (suc m) half n =
    if nat_lt n 64 || nat_le (2 * half) (n + 64) then (n % 128) ∷ [] else
    (n % 128 + 128) ∷ signed_text m half (if nat_lt n half then n / 128 else n / 128 + (2 * half - 2 * half / 128))

-- the widths of the format: what is at the front with the bytes after it, and the shortest forms; signed numbers are bit patterns
unfoldable pub u32_at : List ℕ → Option (ℕ × List ℕ)
u32_at bytes = unsigned_at 5 (2 ^ 32) bytes

unfoldable pub s32_at : List ℕ → Option (ℕ × List ℕ)
s32_at bytes = signed_at 5 (2 ^ 31) bytes

unfoldable pub s64_at : List ℕ → Option (ℕ × List ℕ)
s64_at bytes = signed_at 10 (2 ^ 63) bytes

unfoldable pub u32_text : ℕ → List ℕ
u32_text n = unsigned_text 5 n

unfoldable pub s32_text : ℕ → List ℕ
s32_text n = signed_text 5 (2 ^ 31) n

unfoldable pub s64_text : ℕ → List ℕ
s64_text n = signed_text 10 (2 ^ 63) n
