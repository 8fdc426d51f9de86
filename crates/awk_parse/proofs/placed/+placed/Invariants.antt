use Rattle.std.proofs.Common.{◌≡◌, ◌++◌, drop}
use Rattle.awk_grammar.specs.ViewStmt.{view_stmts}
use Rattle.awk_parse.specs.Jumps.{all_jumps}
use Rattle.awk_parse.proofs.placed.+placed.Given as goal

abbrev pub invariant-push_all-loop-s : goal.invariant-push_all-loop-s
invariant-push_all-loop-s l = l.out.items ++ all_jumps l.place l.looped (view_stmts (drop l.s-index l.body)) ≡ l.fn.out.items ++ all_jumps l.place l.looped (view_stmts l.body)
