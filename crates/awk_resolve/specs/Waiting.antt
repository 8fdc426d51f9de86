-- What is given for a number.
use Rattle.std.specs.Prelude.{ℕ, zero, suc, ◌==◌, if◌then◌else◌, List, [], ◌∷◌}
use Rattle.std.specs.Global.{Vec}

-- the firsts of the pairs that have a number as their second
abbrev pub given_for : List (ℕ × ℕ) → ℕ → List ℕ
given_for [] n = []
given_for (p ∷ ps) n = if p.1 == n then p.0 ∷ given_for ps n else given_for ps n

-- the list at a place
abbrev pub numbers_at : List (Vec ℕ) → ℕ → List ℕ
numbers_at [] n = []
numbers_at (v ∷ vs) zero = v.items
numbers_at (v ∷ vs) (suc n) = numbers_at vs n
