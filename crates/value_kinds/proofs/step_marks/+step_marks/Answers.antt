use Rattle.std.proofs.Common.{List, [], ◌∷◌, ◌++◌, ap, sym, ◌∙◌, arith}
use Rattle.mid_program.specs.Mid.{a_value}
use Rattle.mid_program.specs.ViewCode.{view, view_step, view_steps}
use Rattle.mid_program.specs.declared.step.Step.{Step}
use Rattle.mid_program.specs.Stores.{step_stores, steps_stores, stores}
use Rattle.value_kinds.specs.View.{view_walk}
use Rattle.value_kinds.specs.Walks.{after}
use Rattle.value_kinds.proofs.Views.{view_block}
use Rattle.value_kinds.proofs.Walked.{step_next, two_walked}
use Rattle.value_kinds.proofs.step_marks.+step_marks.Goals as goal

pub mark_step-returns-in-Block : goal.mark_step-returns-in-Block
mark_step-returns-in-Block t c =
    let w = view_walk c.args.walk.now in
    c.mark_steps.ensures ∙ ap (λ (ss : List Step). after w (steps_stores (view_steps ss))) c.deref.ensures.value
    ∙ ap (λ (s : _). after w (step_stores s)) (sym (ap view_step c.in-Block.is ∙ view_block c.in-Block.steps))

pub mark_step-returns-in-If : goal.mark_step-returns-in-If
mark_step-returns-in-If t c =
    let e = view c.in-If.test in
    let a = view_step c.in-If.yes.value in
    let b = view_step c.in-If.no.value in
    let w = view_walk c.args.walk.now in
    let s = view_walk c.mark_alone.new.walk in
    let u = view_walk c.mark_step.new.walk in
    let v = view_walk c.mark_step-in-If.new.walk in
    two_walked w s v (stores [] e) (step_stores a ++ step_stores b) c.mark_alone.ensures
    (two_walked s u v (step_stores a) (step_stores b)
    (c.mark_step.ensures ∙ ap (λ (x : Step). after s (step_stores (view_step x))) c.deref-in-If.ensures)
    (c.mark_step-in-If.ensures ∙ ap (λ (x : Step). after u (step_stores (view_step x))) c.deref-in-If-2.ensures))
    ∙ ap (λ (x : Step). after w (step_stores (view_step x))) (sym c.in-If.is)

pub mark_step-returns-in-Loop : goal.mark_step-returns-in-Loop
mark_step-returns-in-Loop t c =
    let e = view c.in-Loop.test in
    let a = view_step c.in-Loop.body.value in
    let b = view_step c.in-Loop.between.value in
    let w = view_walk c.args.walk.now in
    let s = view_walk c.mark_alone-in-Loop.new.walk in
    let u = view_walk c.mark_step-in-Loop.new.walk in
    let v = view_walk c.mark_step-in-Loop-2.new.walk in
    two_walked w s v (stores [] e) (step_stores a ++ step_stores b) c.mark_alone-in-Loop.ensures
    (two_walked s u v (step_stores a) (step_stores b)
    (c.mark_step-in-Loop.ensures ∙ ap (λ (x : Step). after s (step_stores (view_step x))) c.deref-in-Loop.ensures)
    (c.mark_step-in-Loop-2.ensures ∙ ap (λ (x : Step). after u (step_stores (view_step x))) c.deref-in-Loop-2.ensures))
    ∙ ap (λ (x : Step). after w (step_stores (view_step x))) (sym c.in-Loop.is)

pub mark_step-returns-in-Each : goal.mark_step-returns-in-Each
mark_step-returns-in-Each t c =
    let e = view c.in-Each.store in
    let a = view_step c.in-Each.body.value in
    let w = view_walk c.args.walk.now in
    let s = view_walk c.mark_store.new.walk in
    two_walked w s (view_walk c.mark_step-in-Each.new.walk) (stores (a_value ∷ []) e) (step_stores a) c.mark_store.ensures
    (c.mark_step-in-Each.ensures ∙ ap (λ (x : Step). after s (step_stores (view_step x))) c.deref-in-Each.ensures)
    ∙ ap (λ (x : Step). after w (step_stores (view_step x))) (sym c.in-Each.is)

pub mark_steps-loop-step-preserved : goal.mark_steps-loop-step-preserved
mark_steps-loop-step-preserved t c =
    step_next (view_walk c.loop-step.walk) (view_walk c.mark_step.new.walk) c.step-item.result c.step-item.result c.args.steps.now c.loop-step.step-index (omega arith) c.step-item.is c.mark_step.ensures
    ∙ c.loop-step.invariant
