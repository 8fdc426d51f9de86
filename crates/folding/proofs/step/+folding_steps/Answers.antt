use Rattle.std.specs.declared.alloc.Global.{Global}
use Rattle.mid_program.specs.declared.code.Code.{Code}
use Rattle.mid_program.specs.declared.step.Step.{Step, out-Step}
use Rattle.std.specs.declared.boxed.Box.{Box}
use Rattle.mid_program.specs.declared.step.Step.TheBlock.{hidden-the_row-Step-0, seen-the_row-Step-0, shape-the_row-Step-0, shown-the_row-Step-0}
use Rattle.std.specs.declared.vec.Vec.{Vec}
use denote.Hole.Carrier.{out}
use Rattle.std.proofs.Common.{◌≡◌, length, drop, ap, sym, ◌∙◌, arith}
use Rattle.mid_program.specs.Mid as plain
use Rattle.mid_program.specs.ViewCode.{view, view_array, view_step, view_steps}
use Rattle.mid_program.specs.Rewriting.{step_in}
use Rattle.folding.specs.Folding.{folded, folded_steps, reduced, same}
use Rattle.folding.proofs.Views.{StepDone, done_next, rest_next, steps_done, steps_of, written_back}
use Rattle.folding.proofs.step.+folding_steps.Goals as goal

pub fold_steps-loop-step-preserved : goal.fold_steps-loop-step-preserved
fold_steps-loop-step-preserved t c = record {
  rest = rest_next c.loop-step.step-items c.deref_mut-step-items.result.now c.loop-step.step-index c.fold_step.new.step c.loop-step.invariant.rest;
  done = done_next StepDone c.loop-step.step-index c.loop-step.step-items c.args.steps.now.items c.step-item.result c.fold_step.new.step (omega arith) c.loop-step.invariant.done c.fold_step.ensures;
}

pub fold_steps-returns : goal.fold_steps-returns
fold_steps-returns t c =
    ap view_steps (written_back c.args.steps.now.len c.loop-step.step-items (drop (length c.loop-step.step-items) c.args.steps.now.items) (omega arith))
    ∙ steps_done c.loop-step.step-index c.loop-step.step-items c.args.steps.now.items (omega arith) c.loop-step.invariant.done

abbrev boxed : Box Step Global → Step
boxed b = b.value

-- steps that were hidden in a step, and shown again
abbrev again : Vec Step Global → Vec Step Global
again v = shown-the_row-Step-0 (shape-the_row-Step-0 v) (hidden-the_row-Step-0 v)

pub fold_step-returns-in-Eval : goal.fold_step-returns-in-Eval
unfolding out-Step out
fold_step-returns-in-Eval t c =
    let code : view c.fold_code.new.code ≡ folded (view c.in-Eval.code) = rw c.in-Eval.is at c.fold_code.ensures in
    rw c.in-Eval.is (ap plain.Eval code)

pub fold_step-returns-in-ExitWith : goal.fold_step-returns-in-ExitWith
unfolding out-Step out
fold_step-returns-in-ExitWith t c =
    let code : view c.fold_code-in-ExitWith.new.code ≡ folded (view c.in-ExitWith.code) = rw c.in-ExitWith.is at c.fold_code-in-ExitWith.ensures in
    rw c.in-ExitWith.is (ap plain.ExitWith code)

pub fold_step-returns-in-Return : goal.fold_step-returns-in-Return
unfolding out-Step out
fold_step-returns-in-Return t c =
    let code : view c.fold_code-in-Return.new.code ≡ folded (view c.in-Return.code) = rw c.in-Return.is at c.fold_code-in-Return.ensures in
    rw c.in-Return.is (ap plain.Return code)

pub fold_step-returns-in-Block : goal.fold_step-returns-in-Block
unfolding out-Step out
fold_step-returns-in-Block t c =
    let done : view_steps c.fold_steps.new.steps.items ≡ folded_steps (view_steps (again c.in-Block.steps).items) = rw c.in-Block.is at c.fold_steps.ensures in
    let same = ap (λ (v : Vec Step Global). folded_steps (view_steps v.items)) (seen-the_row-Step-0 c.in-Block.steps) in
    rw c.in-Block.is (ap plain.Block (steps_of c.fold_steps.new.steps ∙ done ∙ same ∙ ap folded_steps (sym (steps_of c.in-Block.steps))))

pub fold_step-returns-in-If : goal.fold_step-returns-in-If
fold_step-returns-in-If t c =
    let test = c.fold_code-in-If.ensures ∙ ap (λ (e : Code). folded (view e)) c.in-If.test-is in
    let yes = c.fold_step.ensures ∙ ap (λ (s : Step). step_in same reduced (view_step s)) (c.deref_mut.ensures.value ∙ ap boxed c.in-If.yes-is) in
    let no = c.fold_step-in-If.ensures ∙ ap (λ (s : Step). step_in same reduced (view_step s)) (c.deref_mut-in-If.ensures.value ∙ ap boxed c.in-If.no-is) in
    (λ i. plain.If (test i) (yes i) (no i)) ∙ ap (λ (s : Step). step_in same reduced (view_step s)) (sym c.in-If.is)

pub fold_step-returns-in-Loop : goal.fold_step-returns-in-Loop
unfolding out-Step out
fold_step-returns-in-Loop t c =
    let test : view c.fold_code-in-Loop.new.code ≡ folded (view c.in-Loop.test) = rw c.in-Loop.is at c.fold_code-in-Loop.ensures in
    let body : view_step c.fold_step-in-Loop.new.step ≡ step_in same reduced (view_step c.in-Loop.body.value) = rw c.in-Loop.is at (c.fold_step-in-Loop.ensures ∙ ap (λ (s : Step). step_in same reduced (view_step s)) c.deref_mut-in-Loop.ensures.value) in
    let between : view_step c.fold_step-in-Loop-2.new.step ≡ step_in same reduced (view_step c.in-Loop.between.value) = rw c.in-Loop.is at (c.fold_step-in-Loop-2.ensures ∙ ap (λ (s : Step). step_in same reduced (view_step s)) c.deref_mut-in-Loop-2.ensures.value) in
    rw c.in-Loop.is (λ i. plain.Loop c.in-Loop.field-0 (test i) (body i) (between i))

pub fold_step-returns-in-Each : goal.fold_step-returns-in-Each
unfolding out-Step out
fold_step-returns-in-Each t c =
    let store : view c.fold_code-in-Each.new.code ≡ folded (view c.in-Each.store) = rw c.in-Each.is at c.fold_code-in-Each.ensures in
    let body : view_step c.fold_step-in-Each.new.step ≡ step_in same reduced (view_step c.in-Each.body.value) = rw c.in-Each.is at (c.fold_step-in-Each.ensures ∙ ap (λ (s : Step). step_in same reduced (view_step s)) c.deref_mut-in-Each.ensures.value) in
    rw c.in-Each.is (λ i. plain.Each (view_array c.in-Each.field-0) (store i) (body i))
