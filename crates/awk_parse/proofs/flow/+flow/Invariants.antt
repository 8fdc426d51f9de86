use Rattle.std.proofs.Common.{◌*◌, ◌+◌, ◌-◌, length}
use Rattle.awk_grammar.specs.Trees.{Stmts}
use Rattle.awk_grammar.specs.ReadStmt.{stmts_at, stmt_at}
use Rattle.awk_grammar.specs.ViewStmt.{view_stmts}
use Rattle.awk_parse.specs.Parsed.{At, at, Parsed}
use Rattle.awk_parse.proofs.Blocks.{left_stmts}
use Rattle.awk_parse.proofs.flow.+flow.Given as goal

abbrev pub invariant-statements-loop : goal.invariant-statements-loop
invariant-statements-loop l = (v : Stmts) (s : At) → Parsed v (at l.source) s (left_stmts (stmt_at l.limit) (view_stmts l.read.items) (l.turns - l.counter)) → Parsed v (at l.fn.source) s (λ ts. stmts_at (stmt_at l.limit) (length ts) ts)

abbrev pub decreases-statement : goal.decreases-statement
decreases-statement l = 2 * l.limit

abbrev pub decreases-statements : goal.decreases-statements
decreases-statements l = 2 * l.limit + 1

abbrev pub decreases-if_statement : goal.decreases-if_statement
decreases-if_statement l = 2 * l.limit + 1

abbrev pub decreases-loop_statement : goal.decreases-loop_statement
decreases-loop_statement l = 2 * l.limit + 1
