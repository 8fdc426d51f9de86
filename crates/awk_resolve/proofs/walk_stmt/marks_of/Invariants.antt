use Rattle.std.proofs.Common.{drop}
use Rattle.awk_grammar.specs.ViewStmt.{view_items}
use Rattle.awk_grammar.specs.Marks.{script_marks}
use Rattle.latched.specs.Latched.{Leads}
use Rattle.awk_resolve.specs.View.{view_mark}
use Rattle.awk_resolve.proofs.walk_stmt.marks_of.Given as goal

abbrev pub invariant-loop-item : goal.invariant-loop-item
invariant-loop-item l = Leads view_mark l.out (script_marks (view_items (drop l.item-index l.script.items.items))) (script_marks (view_items l.script.items.items))
