use Rattle.std.proofs.Common.{◌≡◌, ◌++◌, drop}
use Rattle.awk_grammar.specs.ViewStmt.{view_items}
use Rattle.awk_parse.specs.Jumps.{script_jumps}
use Rattle.awk_parse.proofs.placed.push_items.Given as goal

abbrev pub invariant-loop-item : goal.invariant-loop-item
invariant-loop-item l = l.out.items ++ script_jumps (view_items (drop l.item-index l.items)) ≡ l.fn.out.items ++ script_jumps (view_items l.items)
