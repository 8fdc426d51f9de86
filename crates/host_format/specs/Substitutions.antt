-- Substitution (POSIX.1-2017 awk, "String Functions", sub and gsub).
use Rattle.std.specs.Prelude.{◌≡◌, ℕ, ◌+◌, ◌≤◌, Bool, List, [], ◌∷◌, Option, Some, None, Result, Ok, length}
use Rattle.awk_values.specs.declared.fault.Fault.{Fault}
use Rattle.ere_syntax.specs.Tree.{Tree}
use Rattle.sem_primitives.specs.FirstMatch.{first_match}
use Rattle.sem_primitives.specs.SharedState.{◌>>=◌}
use Rattle.sem_primitives.specs.Texts.{limited}
use Rattle.host_bytes.specs.Growing.{Grows}
use Rattle.host_bytes.specs.declared.growing.Growing.{Growing}
use Rattle.sem_primitives.specs.TextMeaning.{behind, places, places_of, replaced}

-- how many matches are replaced, and the new text
abbrev pub substitution : Tree → List ℕ → List ℕ → Bool → Result (ℕ × List ℕ) Fault
substitution t by text all = limited (replaced text by 0 (places_of t text all)) >>= λ new. Ok (length (places_of t text all), new)

-- the matches from a place on, as the next of them says
abbrev pub IsNextPlace : Tree → List ℕ → ℕ → Option ℕ → Option (ℕ × ℕ) → Type 0
IsNextPlace t text at last None = (n : ℕ) → length text + 1 ≤ n + at → places (first_match t text) n at last ≡ []
IsNextPlace t text at last (Some p) = (n : ℕ) → length text + 1 ≤ n + at → (m : ℕ) × (length text + 1 ≤ m + behind p)
    × (places (first_match t text) n at last ≡ p ∷ places (first_match t text) m (behind p) (Some p.1))

-- so many matches were replaced, and between the two the new text was added
pub record IsReplaced (t : Tree) (by text : List ℕ) (all : Bool) (count : ℕ) (old new : Growing) : Type 0 where
  pub counted : length (places_of t text all) ≡ count
  pub grows : Grows old new (Ok (replaced text by 0 (places_of t text all)))
