-- Scripts whose jumps stand in their places.
use Rattle.std.specs.Prelude.{Bool, true, false, List, IsTrue}
use Rattle.std.specs.List.{list_all}
use Rattle.awk_grammar.specs.Trees.{Item, Function as FunctionItem, Begin, End, Always, When, Lone, Nothing}
use Rattle.script_code.specs.Fits.{are_placed}

abbrev pub item_placed : Item → Bool
item_placed (FunctionItem f xs ss) = are_placed true false ss
item_placed (Begin ss) = are_placed false false ss
item_placed (End ss) = are_placed false false ss
item_placed (Always ss) = are_placed false false ss
item_placed (When p ss) = are_placed false false ss
item_placed (Lone p) = true
item_placed Nothing = true

abbrev pub ArePlaced : List Item → Type 0
ArePlaced items = IsTrue (list_all item_placed items)
