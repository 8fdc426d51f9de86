-- The first match: the least start, then the greatest end.
use Rattle.std.specs.Prelude.{ℕ, ◌≤◌, Bool, true, false, List, Option, Some, None}
use Rattle.ere_syntax.specs.Tree.{Tree}
use Rattle.ere_syntax.specs.Matches.{Matches}

pub record IsFirst (t : Tree) (text : List ℕ) (from start end : ℕ) : Type 0 where
  pub above : from ≤ start
  pub matches : Matches t text start end
  pub least : (i j : ℕ) → from ≤ i → Matches t text i j → start ≤ i
  pub greatest : (j : ℕ) → Matches t text start j → j ≤ end

abbrev pub IsFirstMatch : Tree → List ℕ → ℕ → Option (ℕ × ℕ) → Type 0
IsFirstMatch t text from None = (i j : ℕ) → from ≤ i → Matches t text i j → ⊥
IsFirstMatch t text from (Some p) = IsFirst t text from p.0 p.1

-- whether there is a match
abbrev pub IsMatch : Tree → List ℕ → Bool → Type 0
IsMatch t text true = (i : ℕ) × (j : ℕ) × Matches t text i j
IsMatch t text false = (i j : ℕ) → Matches t text i j → ⊥
