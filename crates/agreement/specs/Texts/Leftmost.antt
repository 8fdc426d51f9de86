-- Leftmost, and of these longest.
use Rattle.std.specs.Prelude.{ℕ, ◌≤◌}

-- of all that stand so from a place on, this one begins first, and is the longest that begins there
pub record IsLeftmost (Is : ℕ → ℕ → Type 0) (from start end : ℕ) : Type 0 where
  pub above : from ≤ start
  pub is : Is start end
  pub least : (i j : ℕ) → from ≤ i → Is i j → start ≤ i
  pub greatest : (j : ℕ) → Is start j → j ≤ end

-- none stands so from a place on
abbrev pub IsNone : (ℕ → ℕ → Type 0) → ℕ → Type 0
IsNone Is from = (i j : ℕ) → from ≤ i → Is i j → ⊥
