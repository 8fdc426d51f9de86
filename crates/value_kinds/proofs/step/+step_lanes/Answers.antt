use Rattle.std.specs.declared.alloc.Global.{Global}
use Rattle.mid_program.specs.declared.code.Code.{Code}
use Rattle.mid_program.specs.declared.step.Step.{Step, out-Step}
use Rattle.std.specs.declared.boxed.Box.{Box}
use Rattle.mid_program.specs.declared.step.Step.TheBlock.{hidden-the_row-Step-0, seen-the_row-Step-0, shape-the_row-Step-0, shown-the_row-Step-0}
use Rattle.std.specs.declared.vec.Vec.{Vec}
use denote.Hole.Carrier.{out}
use Rattle.std.proofs.Common.{◌≡◌, length, drop, ap, sym, ◌∙◌, arith}
use Rattle.mid_program.specs.Mid as plain
use Rattle.mid_program.specs.ViewCode.{view, view_array, view_step, view_steps}
use Rattle.mid_program.specs.Rewriting.{code_in, step_in, steps_in}
use Rattle.value_kinds.specs.View.{slots}
use Rattle.value_kinds.proofs.Views.{StepDone, done_next, rest_next, steps_done, steps_of, written_back}
use Rattle.value_kinds.proofs.step.+step_lanes.Goals as goal

pub lane_steps-loop-step-preserved : goal.lane_steps-loop-step-preserved
lane_steps-loop-step-preserved t c = record {
  rest = rest_next c.loop-step.step-items c.deref_mut-step-items.result.now c.loop-step.step-index c.lane_step.new.step c.loop-step.invariant.rest;
  done = done_next (StepDone (slots c.args.names)) c.loop-step.step-index c.loop-step.step-items c.args.steps.now.items c.step-item.result c.lane_step.new.step (omega arith) c.loop-step.invariant.done c.lane_step.ensures;
}

pub lane_steps-returns : goal.lane_steps-returns
lane_steps-returns t c =
    ap view_steps (written_back c.args.steps.now.len c.loop-step.step-items (drop (length c.loop-step.step-items) c.args.steps.now.items) (omega arith))
    ∙ steps_done (slots c.args.names) c.loop-step.step-index c.loop-step.step-items c.args.steps.now.items (omega arith) c.loop-step.invariant.done

abbrev boxed : Box Step Global → Step
boxed b = b.value

-- steps that were hidden in a step, and shown again
abbrev again : Vec Step Global → Vec Step Global
again v = shown-the_row-Step-0 (shape-the_row-Step-0 v) (hidden-the_row-Step-0 v)

pub lane_step-returns-in-Eval : goal.lane_step-returns-in-Eval
unfolding out-Step out
lane_step-returns-in-Eval t c =
    let code : view c.lane_code.new.code ≡ code_in (slots c.args.names) plain.Do (view c.in-Eval.code) = rw c.in-Eval.is at c.lane_code.ensures in
    rw c.in-Eval.is (ap plain.Eval code)

pub lane_step-returns-in-ExitWith : goal.lane_step-returns-in-ExitWith
unfolding out-Step out
lane_step-returns-in-ExitWith t c =
    let code : view c.lane_code-in-ExitWith.new.code ≡ code_in (slots c.args.names) plain.Do (view c.in-ExitWith.code) = rw c.in-ExitWith.is at c.lane_code-in-ExitWith.ensures in
    rw c.in-ExitWith.is (ap plain.ExitWith code)

pub lane_step-returns-in-Return : goal.lane_step-returns-in-Return
unfolding out-Step out
lane_step-returns-in-Return t c =
    let code : view c.lane_code-in-Return.new.code ≡ code_in (slots c.args.names) plain.Do (view c.in-Return.code) = rw c.in-Return.is at c.lane_code-in-Return.ensures in
    rw c.in-Return.is (ap plain.Return code)

pub lane_step-returns-in-Block : goal.lane_step-returns-in-Block
unfolding out-Step out
lane_step-returns-in-Block t c =
    let done : view_steps c.lane_steps.new.steps.items ≡ steps_in (slots c.args.names) plain.Do (view_steps (again c.in-Block.steps).items) = rw c.in-Block.is at c.lane_steps.ensures in
    let same = ap (λ (v : Vec Step Global). steps_in (slots c.args.names) plain.Do (view_steps v.items)) (seen-the_row-Step-0 c.in-Block.steps) in
    rw c.in-Block.is (ap plain.Block (steps_of c.lane_steps.new.steps ∙ done ∙ same ∙ ap (steps_in (slots c.args.names) plain.Do) (sym (steps_of c.in-Block.steps))))

pub lane_step-returns-in-If : goal.lane_step-returns-in-If
lane_step-returns-in-If t c =
    let test = c.lane_code-in-If.ensures ∙ ap (λ (e : Code). code_in (slots c.args.names) plain.Do (view e)) c.in-If.test-is in
    let yes = c.lane_step.ensures ∙ ap (λ (s : Step). step_in (slots c.args.names) plain.Do (view_step s)) (c.deref_mut.ensures.value ∙ ap boxed c.in-If.yes-is) in
    let no = c.lane_step-in-If.ensures ∙ ap (λ (s : Step). step_in (slots c.args.names) plain.Do (view_step s)) (c.deref_mut-in-If.ensures.value ∙ ap boxed c.in-If.no-is) in
    (λ i. plain.If (test i) (yes i) (no i)) ∙ ap (λ (s : Step). step_in (slots c.args.names) plain.Do (view_step s)) (sym c.in-If.is)

pub lane_step-returns-in-Loop : goal.lane_step-returns-in-Loop
unfolding out-Step out
lane_step-returns-in-Loop t c =
    let test : view c.lane_code-in-Loop.new.code ≡ code_in (slots c.args.names) plain.Do (view c.in-Loop.test) = rw c.in-Loop.is at c.lane_code-in-Loop.ensures in
    let body : view_step c.lane_step-in-Loop.new.step ≡ step_in (slots c.args.names) plain.Do (view_step c.in-Loop.body.value) = rw c.in-Loop.is at (c.lane_step-in-Loop.ensures ∙ ap (λ (s : Step). step_in (slots c.args.names) plain.Do (view_step s)) c.deref_mut-in-Loop.ensures.value) in
    let between : view_step c.lane_step-in-Loop-2.new.step ≡ step_in (slots c.args.names) plain.Do (view_step c.in-Loop.between.value) = rw c.in-Loop.is at (c.lane_step-in-Loop-2.ensures ∙ ap (λ (s : Step). step_in (slots c.args.names) plain.Do (view_step s)) c.deref_mut-in-Loop-2.ensures.value) in
    rw c.in-Loop.is (λ i. plain.Loop c.in-Loop.field-0 (test i) (body i) (between i))

pub lane_step-returns-in-Each : goal.lane_step-returns-in-Each
unfolding out-Step out
lane_step-returns-in-Each t c =
    let store : view c.lane_code-in-Each.new.code ≡ code_in (slots c.args.names) plain.Do (view c.in-Each.store) = rw c.in-Each.is at c.lane_code-in-Each.ensures in
    let body : view_step c.lane_step-in-Each.new.step ≡ step_in (slots c.args.names) plain.Do (view_step c.in-Each.body.value) = rw c.in-Each.is at (c.lane_step-in-Each.ensures ∙ ap (λ (s : Step). step_in (slots c.args.names) plain.Do (view_step s)) c.deref_mut-in-Each.ensures.value) in
    rw c.in-Each.is (λ i. plain.Each (view_array c.in-Each.field-0) (store i) (body i))
