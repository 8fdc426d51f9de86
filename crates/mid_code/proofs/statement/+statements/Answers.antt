use Rattle.std.proofs.Common.{ap, sym, ◌∙◌}
use Rattle.std.proofs.lemmas.Result.{IfOk-weaker}
use Rattle.awk_grammar.specs.ViewStmt.{view_stmt}
use Rattle.awk_grammar.specs.declared.tree.Stmt.{Stmt}
use Rattle.awk_grammar.proofs.Views.{block_is}
use Rattle.mid_program.specs.Translation.{step_code}
use Rattle.mid_code.specs.ViewScope.{scope_of, texts_of}
use Rattle.mid_code.specs.ViewSteps.{chain}
use Rattle.mid_code.proofs.StepParts.{block_step, chain_made, do_step, for_in_step, for_step, if_else_step, if_step, steps_at, steps_past, while_step}
use Rattle.mid_code.proofs.Views.{chain_end}
use Rattle.mid_code.proofs.statement.+statements.Goals as goal

pub step-returns-in-Block : goal.step-returns-in-Block
step-returns-in-Block t c =
    IfOk-weaker c.block.result _ _ (λ r h. h ∙ block_step (texts_of c.args.scope.now) (scope_of c.args.scope.now) c.args.s.now c.in-Block.body _ (block_is c.args.s.now c.in-Block.body _ c.in-Block.is c.deref.ensures.value)) (c.block.ensures _ c.steps.ensures)

pub step-returns-in-If : goal.step-returns-in-If
step-returns-in-If t c =
    IfOk-weaker c.done_where.result _ _ (λ r h. h ∙ if_step (texts_of c.args.scope.now) (scope_of c.args.scope.now) c.args.s.now _ _ _ c.in-If.is c.deref-in-If.ensures) (c.done_where.ensures _ _ c.code.ensures c.step.ensures)

pub step-returns-in-IfElse : goal.step-returns-in-IfElse
step-returns-in-IfElse t c =
    IfOk-weaker c.branches.result _ _ (λ r h. h ∙ if_else_step (texts_of c.args.scope.now) (scope_of c.args.scope.now) c.args.s.now _ _ _ _ _ c.in-IfElse.is c.deref-in-IfElse.ensures c.deref-in-IfElse-2.ensures) (c.branches.ensures _ _ _ c.code-in-IfElse.ensures c.step-yes.ensures c.step-in-IfElse.ensures)

pub step-returns-in-While : goal.step-returns-in-While
step-returns-in-While t c =
    IfOk-weaker c.rounds.result _ _ (λ r h. h ∙ while_step (texts_of c.args.scope.now) (scope_of c.args.scope.now) c.args.s.now _ _ _ c.in-While.is c.deref-in-While.ensures) (c.rounds.ensures _ _ _ c.code-in-While.ensures c.step-body.ensures c.nothing-in-While.ensures)

pub step-returns-in-Do : goal.step-returns-in-Do
step-returns-in-Do t c =
    IfOk-weaker c.rounds-in-Do.result _ _ (λ r h. h ∙ do_step (texts_of c.args.scope.now) (scope_of c.args.scope.now) c.args.s.now _ _ _ c.in-Do.is c.deref-in-Do.ensures) (c.rounds-in-Do.ensures _ _ _ c.code-in-Do.ensures c.step-body-in-Do.ensures c.nothing-in-Do.ensures)

pub step-returns-in-For : goal.step-returns-in-For
step-returns-in-For t c =
    IfOk-weaker c.counted.result _ _ (λ r h. h ∙ for_step (texts_of c.args.scope.now) (scope_of c.args.scope.now) c.args.s.now _ _ _ _ _ c.in-For.is c.deref-in-For.ensures) (c.counted.ensures _ c.step-in-For.ensures)

pub step-returns-in-ForIn : goal.step-returns-in-ForIn
step-returns-in-ForIn t c =
    IfOk-weaker c.walked.result _ _ (λ r h. h ∙ for_in_step (texts_of c.args.scope.now) (scope_of c.args.scope.now) c.args.s.now _ _ _ _ _ _ c.in-ForIn.is c.deref-in-ForIn.ensures.value c.deref-in-ForIn-2.ensures.value c.deref-in-ForIn-3.ensures) (c.walked.ensures _ c.step-in-ForIn.ensures)

pub step-returns-in-Jump : goal.step-returns-in-Jump
step-returns-in-Jump t c =
    let texts = texts_of c.args.scope.now in
    let scope = scope_of c.args.scope.now in
    IfOk-weaker c.jump.result _ _ (λ r h. h ∙ sym (ap (λ (s : Stmt). step_code texts scope (view_stmt s)) c.in-Jump.is)) (c.jump.ensures texts scope)

pub steps-loop-s-preserved : goal.steps-loop-s-preserved
steps-loop-s-preserved t c =
    chain_made (texts_of c.args.scope.now) (scope_of c.args.scope.now) _ _ c.step.result _ _ _ c.in_ok-push_made.ensures.items c.step.ensures
    (sym (steps_at (texts_of c.args.scope.now) (scope_of c.args.scope.now) c.args.body.now c.loop-s.s-index c.s-item.result c.loop-s-test.true c.s-item.is)) ∙ c.loop-s.invariant

pub steps-returns : goal.steps-returns
steps-returns t c =
    let body = c.args.body.now in
    let i = c.loop-s.s-index in
    let found = c.loop-s.found.items in
    let texts = texts_of c.args.scope.now in
    let scope = scope_of c.args.scope.now in
    sym (chain_end found) ∙ sym (ap (chain found) (steps_past texts scope body i c.loop-s-test.false)) ∙ c.loop-s.invariant
