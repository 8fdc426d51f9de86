use Rattle.std.proofs.Common.{◌≡◌, drop}
use Rattle.awk_grammar.specs.WellFormed.{are_stmts}
use Rattle.awk_grammar.specs.ViewStmt.{view_stmts}
use Rattle.awk_tree.proofs.check_stmt.+check_stmt.Given as goal

abbrev pub invariant-are_statements-loop-s : goal.invariant-are_statements-loop-s
invariant-are_statements-loop-s l = are_stmts (view_stmts (drop l.s-index l.body)) ≡ are_stmts (view_stmts l.body)
