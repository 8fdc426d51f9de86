-- A list of slots as a finite map: what a slot holds stands under the slot's place, counted from 0.
use Rattle.std.specs.Prelude.{◌≡◌, ◌≢◌, ℕ, ◌+◌, ℤ, pos, List, [], ◌∷◌, get_or, Option, Some, None}
use Rattle.std.specs.Ordering.{int_cmp}
use Rattle.std.specs.FinMap as map
use Rattle.std.specs.FinMap.{FinMap}

-- what the slots hold, the first of them under the given number
abbrev pub entries_from : {V : Type 0} → ℕ → List (Option V) → List (ℤ × V)
entries_from key [] = []
entries_from key (None ∷ rest) = entries_from (key + 1) rest
entries_from key (Some v ∷ rest) = (pos key, v) ∷ entries_from (key + 1) rest

abbrev pub table : {V : Type 0} → List (Option V) → FinMap int_cmp V
table slots = map.from_entries (entries_from 0 slots)

-- so many slots are filled at most: 2^31 - 1, so that a number below 2^31 is always free
abbrev pub most_slots : ℕ
most_slots = 2147483647

-- one slot is written, and every other holds what it held; past the end of a list there is nothing
pub record Writes {V : Type 0} (key : ℕ) (slot : Option V) (old new : List (Option V)) : Type 0 where
  pub written : get_or new key None ≡ slot
  pub others : (k : ℕ) → k ≢ key → get_or new k None ≡ get_or old k None
