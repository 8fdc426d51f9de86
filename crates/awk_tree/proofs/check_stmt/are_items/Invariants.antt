use Rattle.std.proofs.Common.{◌≡◌, drop}
use Rattle.awk_grammar.specs.WellFormed.{is_script}
use Rattle.awk_grammar.specs.ViewStmt.{view_items}
use Rattle.awk_tree.proofs.check_stmt.are_items.Given as goal

abbrev pub invariant-loop-item : goal.invariant-loop-item
invariant-loop-item l = is_script (view_items (drop l.item-index l.items)) ≡ is_script (view_items l.items)
