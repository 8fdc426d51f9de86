-- The code of items, as the code has it.
use Rattle.std.specs.Prelude.{◌≡◌, ◌+◌, ℕ, List, ◌∷◌}
use Rattle.awk_grammar.specs.Trees.{Item}
use Rattle.sem_scripts.specs.Ranges.{item_ranges}
use Rattle.sem_scripts.specs.Names as names
use Rattle.mid_program.specs.Translation.{begin_code, end_code, items_code}
use Rattle.mid_code.specs.ViewSteps.{chain}
use Rattle.mid_code.specs.declared.item.Actions.{Actions}

-- the code of one item more is there
pub record AddsItem (texts : List (List ℕ)) (scope : names.Scope) (old new : Actions) (item : Item) : Type 0 where
  pub begin : (items : List Item) → chain new.begin.items (begin_code texts scope items) ≡ chain old.begin.items (begin_code texts scope (item ∷ items))
  pub each : (items : List Item) → chain new.each.items (items_code texts scope (item_ranges item + old.ranges) items) ≡ chain old.each.items (items_code texts scope old.ranges (item ∷ items))
  pub end : (items : List Item) → chain new.end.items (end_code texts scope items) ≡ chain old.end.items (end_code texts scope (item ∷ items))
  pub ranges : new.ranges ≡ old.ranges
