-- How many ranges items have.
use Rattle.std.specs.Prelude.{ℕ, ◌+◌, List, [], ◌∷◌}
use Rattle.awk_grammar.specs.Trees.{Item, Function, Begin, End, Always, When, Lone, Nothing}
use Rattle.sem_scripts.specs.Items.{pattern_ranges}

abbrev pub item_ranges : Item → ℕ
item_ranges (When p ss) = pattern_ranges p
item_ranges (Lone p) = pattern_ranges p
item_ranges (Always ss) = 0
item_ranges (Begin ss) = 0
item_ranges (End ss) = 0
item_ranges (Function f ps ss) = 0
item_ranges Nothing = 0

abbrev pub range_count : List Item → ℕ
range_count [] = 0
range_count (item ∷ items) = item_ranges item + range_count items
