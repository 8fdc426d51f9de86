use Rattle.std.proofs.Common.{◌∙◌}
use Rattle.std.proofs.lemmas.Result.{IfOk-weaker}
use Rattle.awk_grammar.specs.ViewStmt.{view_args}
use Rattle.sem_scripts.specs.Statements.{operands_of}
use Rattle.mid_code.specs.ViewScope.{scope_of, texts_of}
use Rattle.mid_code.proofs.StepParts.{with_target_is}
use Rattle.mid_code.proofs.statement.printed.Goals as goal

pub returns-in-File : goal.returns-in-File
returns-in-File c =
    IfOk-weaker c.with_last.result _ _ (λ r h. h ∙ with_target_is (texts_of c.args.scope.now) (scope_of c.args.scope.now) (operands_of (view_args c.args.args.now)) c.in-File.file c.args.target.now c.in-File.is)
    (c.with_last.ensures _ _ c.values-codes.ensures c.code.ensures)
