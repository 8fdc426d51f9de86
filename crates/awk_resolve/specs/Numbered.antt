-- Variables by their numbers: places in a list of variables.
use Rattle.std.specs.Prelude.{◌≡◌, ℕ, Bool, if◌then◌else◌, List, [], map, Option, Some}
use Rattle.std.specs.List.{slice_get}
use Rattle.awk_grammar.specs.Kinds.{Key}

-- the numbers are those of the variables
abbrev pub AreNumbers : List Key → List ℕ → List Key → Type 0
AreNumbers keys ns ks = map (slice_get keys) ns ≡ map Some ks

abbrev pub both_at : List Key → ℕ × ℕ → Option Key × Option Key
both_at keys p = (slice_get keys p.0, slice_get keys p.1)

abbrev pub both_some : Key × Key → Option Key × Option Key
both_some p = (Some p.0, Some p.1)

-- the pairs of numbers are those of the variables
abbrev pub ArePairs : List Key → List (ℕ × ℕ) → List (Key × Key) → Type 0
ArePairs keys ps qs = map (both_at keys) ps ≡ map both_some qs

abbrev pub all_if : Bool → List Key → List Key
all_if b ks = if b then ks else []
