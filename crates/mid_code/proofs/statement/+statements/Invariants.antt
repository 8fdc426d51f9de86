use Rattle.std.proofs.Common.{◌≡◌, drop}
use Rattle.awk_grammar.specs.ViewStmt.{view_stmts}
use Rattle.mid_program.specs.Translation.{steps_code}
use Rattle.mid_code.specs.ViewScope.{scope_of, texts_of}
use Rattle.mid_code.specs.ViewSteps.{chain}
use Rattle.mid_code.proofs.statement.+statements.Given as goal

abbrev pub invariant-steps-loop-s : goal.invariant-steps-loop-s
invariant-steps-loop-s l =
    chain l.found.items (steps_code (texts_of l.scope) (scope_of l.scope) (view_stmts (drop l.s-index l.body)))
    ≡ steps_code (texts_of l.scope) (scope_of l.scope) (view_stmts l.body)
