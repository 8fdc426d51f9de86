use Rattle.std.proofs.Common.{drop}
use Rattle.awk_grammar.specs.ViewStmt.{view_items}
use Rattle.script_check.specs.Uses.{script_uses}
use Rattle.latched.specs.Latched.{Leads}
use Rattle.script_check.specs.View.{view_use}
use Rattle.script_check.proofs.walk_stmt.uses_of.Given as goal

abbrev pub invariant-loop-item : goal.invariant-loop-item
invariant-loop-item l = Leads view_use l.out (script_uses (view_items (drop l.item-index l.script.items.items))) (script_uses (view_items l.script.items.items))
