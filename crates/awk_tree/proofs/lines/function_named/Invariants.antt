use Rattle.std.proofs.Common.{◌≡◌, drop}
use Rattle.std.specs.Prelude.{slice_get}
use Rattle.awk_grammar.specs.ViewStmt.{view_items}
use Rattle.awk_tree.specs.Lines.{function_names}
use Rattle.awk_tree.proofs.lines.function_named.Given as goal

abbrev pub invariant-loop-item : goal.invariant-loop-item
invariant-loop-item l =
    slice_get (function_names (view_items (drop l.item-index l.script.items.items))) l.left ≡ slice_get (function_names (view_items l.script.items.items)) l.number
