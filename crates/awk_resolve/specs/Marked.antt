-- Sets of numbers and of variables as the code keeps them: lists of marks.
use Rattle.std.specs.Prelude.{ℕ, suc, Bool, true, false, if◌then◌else◌, List, [], ◌∷◌, slice_index_or}
use Rattle.awk_grammar.specs.Kinds.{Key, same_key}

abbrev pub is_marked : List Bool → ℕ → Bool
is_marked ms n = slice_index_or ms n false

-- how many are not marked
abbrev pub unmarked : List Bool → ℕ
unmarked [] = 0
unmarked (true ∷ ms) = unmarked ms
unmarked (false ∷ ms) = suc (unmarked ms)

-- the place of a variable in a list; of one that is not there, the list's length
abbrev pub place : List Key → Key → ℕ
place [] k = 0
place (l ∷ ls) k = if same_key k l then 0 else suc (place ls k)

abbrev pub is_marked_in : List Key → List Bool → Key → Bool
is_marked_in ks ms k = is_marked ms (place ks k)
