use Rattle.std.proofs.Common.{drop}
use Rattle.awk_grammar.specs.ViewStmt.{view_stmts}
use Rattle.awk_grammar.specs.Marks.{stmts_marks}
use Rattle.latched.proofs.LatchedLemmas.{Adding}
use Rattle.awk_resolve.specs.View.{view_mark, view_place}
use Rattle.awk_resolve.proofs.walk_stmt.+walk_stmt.Given as goal

abbrev pub invariant-push_stmts-loop-s : goal.invariant-push_stmts-loop-s
invariant-push_stmts-loop-s l = Adding view_mark l.fn.out l.out (stmts_marks (view_place l.place) (view_stmts (drop l.s-index l.body))) (stmts_marks (view_place l.place) (view_stmts l.body))
