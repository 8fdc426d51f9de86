use Rattle.std.proofs.Common.{Option, ap, sym, ◌∙◌}
use Rattle.std.proofs.lemmas.Result.{IfOk-weaker}
use Rattle.awk_grammar.specs.Trees.{Leave}
use Rattle.awk_grammar.specs.View.{view as tree}
use Rattle.awk_grammar.specs.ViewStmt.{view_leaving, view_maybe}
use Rattle.awk_grammar.specs.declared.tree.Expr.{Expr}
use Rattle.mid_program.specs.Translation.{step_code}
use Rattle.mid_code.specs.ViewScope.{scope_of, texts_of}
use Rattle.mid_code.proofs.StepParts.{left_step}
use Rattle.mid_code.proofs.statement.leave.Goals as goal

pub returns-in-None : goal.returns-in-None
returns-in-None c =
    c.leave_bare.ensures (texts_of c.args.scope.now) (scope_of c.args.scope.now)
    ∙ sym (ap (λ (o : Option Expr). step_code (texts_of c.args.scope.now) (scope_of c.args.scope.now) (Leave (view_leaving c.args.leaving) (view_maybe o))) c.in-None.is)

pub returns-in-Some : goal.returns-in-Some
returns-in-Some c =
    IfOk-weaker c.leave_with.result _ _ (λ r h. h ∙ left_step (texts_of c.args.scope.now) (scope_of c.args.scope.now) c.args.leaving (tree c.in-Some.e)
    ∙ sym (ap (λ (o : Option Expr). step_code (texts_of c.args.scope.now) (scope_of c.args.scope.now) (Leave (view_leaving c.args.leaving) (view_maybe o))) c.in-Some.is))
    (c.leave_with.ensures _ c.code.ensures)
