use Rattle.std.proofs.Common.{◌≡◌, ◌+◌, ◌≤◌, drop, length}
use Rattle.awk_grammar.specs.ViewStmt.{view_items}
use Rattle.awk_tree.specs.Lines.{function_names}
use Rattle.script_lines.proofs.table.function_count.Given as goal

abbrev pub invariant-loop-item : goal.invariant-loop-item
invariant-loop-item l = record {
  total : l.count + length (function_names (view_items (drop l.item-index l.script.items.items))) ≡ length (function_names (view_items l.script.items.items));
  few : l.count ≤ l.item-index;
}
