use Rattle.std.proofs.Common.{drop}
use Rattle.awk_grammar.specs.ViewStmt.{view_stmts}
use Rattle.script_check.specs.Uses.{stmts_uses}
use Rattle.latched.proofs.LatchedLemmas.{Adding}
use Rattle.script_check.specs.View.{view_use, view_place}
use Rattle.script_check.proofs.walk_stmt.+walk_stmt.Given as goal

abbrev pub invariant-push_stmts-loop-s : goal.invariant-push_stmts-loop-s
invariant-push_stmts-loop-s l = Adding view_use l.fn.out l.out (stmts_uses (view_place l.place) (view_stmts (drop l.s-index l.body))) (stmts_uses (view_place l.place) (view_stmts l.body))
