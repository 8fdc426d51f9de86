-- The place of a name in a list. Of two of one name it is the first.
use Rattle.std.specs.Prelude.{◌≡◌, ℕ, suc, if◌then◌else◌, List, [], ◌∷◌, Option, Some, None}
use Rattle.std.specs.Borrow.{Bor}
use Rattle.std.specs.Map.{lookup}
use Rattle.awk_grammar.specs.Kinds.{same_name}

abbrev pub next_place : Option ℕ → Option ℕ
next_place (Some i) = Some (suc i)
next_place None = None

abbrev pub place_of : List (List ℕ) → List ℕ → Option ℕ
place_of [] x = None
place_of (n ∷ ns) x = if same_name n x then Some 0 else next_place (place_of ns x)

-- what a table of numbers has at a name
abbrev pub number_in : List (Bor (List ℕ) × ℕ) → List ℕ → Option ℕ
number_in es x = lookup (λ n. same_name x n.now) es

-- the table has the place of each name
abbrev pub ArePlaces : List (Bor (List ℕ) × ℕ) → (List ℕ → Option ℕ) → Type 0
ArePlaces es place = (x : List ℕ) → number_in es x ≡ place x
