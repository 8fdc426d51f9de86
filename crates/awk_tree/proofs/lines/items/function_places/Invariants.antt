use Rattle.std.proofs.Common.{◌≡◌, [], drop}
use Rattle.std.specs.Prelude.{slice_get}
use Rattle.awk_tree.specs.Lexemes.{lexemes}
use Rattle.awk_grammar.specs.ViewStmt.{view_items}
use Rattle.awk_tree.specs.Lines.{functions_places}
use Rattle.awk_tree.proofs.lines.items.function_places.Given as goal

abbrev pub invariant-loop-item : goal.invariant-loop-item
invariant-loop-item l =
    slice_get (functions_places (lexemes l.tokens.items) (view_items (drop l.item-index l.items))) l.left ≡ slice_get (functions_places [] (view_items l.items)) l.number
