-- What memory holds after a store (Core 1.0, section 4.4.4).
use Rattle.std.specs.Prelude.{◌≡◌, ◌⊎◌, ◌<◌, ◌≤◌, ℕ, ◌+◌, ◌/◌, ◌%◌, ◌^◌, List, length, get_or}

-- n bytes of a number from an address on, the lowest first; every other byte is what it was
pub record IsStoredAt (at n number : ℕ) (before after : List ℕ) : Type 0 where
  pub inside : at + n ≤ length before
  pub size : length after ≡ length before
  pub bytes : (i : ℕ) → i < n → get_or after (at + i) 0 ≡ number / 256 ^ i % 256
  pub others : (i : ℕ) → (i < at) ⊎ (at + n ≤ i) → get_or after i 0 ≡ get_or before i 0
