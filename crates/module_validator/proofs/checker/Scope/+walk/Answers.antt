use Rattle.std.proofs.Common.{ℕ, ◌∷◌, [], ap, ◌∙◌, arith}
use Rattle.std.specs.declared.vec.Vec.{Vec}
use Rattle.std.specs.declared.alloc.Global.{Global}
use Rattle.wasm_types.specs.declared.instr.Instr.{Instr}
use Rattle.wasm_types.specs.Syntax.{Block, Loop, If}
use Rattle.wasm_types.specs.View.{view, views}
use Rattle.module_validator.specs.Checks.{context_of}
use Rattle.module_validator.specs.Forms.{push_one}
use Rattle.wasm_types.specs.Typing.{one, CodeOk}
use Rattle.wasm_types.proofs.Views.{view_block, view_loop, view_if}
use Rattle.module_validator.proofs.Steps.{simple_follows, block_exact, block_not, loop_exact, loop_not, choice_exact, choice_not, choice_first, choice_second, put_follows, follows_err, judges_err, so_far_step, so_far_stuck, so_far_end}
use Rattle.module_validator.proofs.checker.Scope.+walk.Goals as goal

pub step-returns-in-Plain-clause-follows : goal.step-returns-in-Plain-clause-follows
step-returns-in-Plain-clause-follows t c = rw (ap view c.in-Plain.is) (simple_follows (context_of c.args.self.now) c.args.labels.now c.simple.result c.in-Plain.p c.args.stack.now c.simple.new.stack c.simple.ensures)

pub step-returns-in-BrTable-clause-follows : goal.step-returns-in-BrTable-clause-follows
step-returns-in-BrTable-clause-follows t c =
    let labels = c.deref-in-BrTable.ensures.value ∙ ap (λ (v : Vec ℕ Global). v.items) c.deref.ensures in
    rw (ap view c.in-BrTable.is) (rw labels at c.branch_table.ensures)

pub step-returns-in_err-body-in-Block-clause-follows : goal.step-returns-in_err-body-in-Block-clause-follows
step-returns-in_err-body-in-Block-clause-follows t c =
    let within = c.deref-in-Block-2.ensures.value ∙ ap (λ (v : Vec Instr Global). v.items) c.deref-in-Block.ensures in
    rw (ap view c.in-Block.is ∙ view_block c.in-Block.kind c.in-Block.inner) (follows_err (context_of c.args.self.now) c.args.labels.now _ c.args.stack.now _ _ c.in_err-body-in-Block.field-0.0 c.from_residual.ensures
    (block_not (context_of c.args.self.now) c.args.labels.now c.in-Block.kind (views c.in-Block.inner.value.items) c.args.stack.now c.in_err-body-in-Block.field-0.0 (rw (← within) c.in_err-body-in-Block.ensures.judges)))

pub step-returns-in_ok-body-in-Block-clause-follows : goal.step-returns-in_ok-body-in-Block-clause-follows
step-returns-in_ok-body-in-Block-clause-follows t c =
    let within = c.deref-in-Block-2.ensures.value ∙ ap (λ (v : Vec Instr Global). v.items) c.deref-in-Block.ensures in
    rw (ap view c.in-Block.is ∙ view_block c.in-Block.kind c.in-Block.inner) (put_follows (context_of c.args.self.now) c.args.labels.now (Block c.in-Block.kind (views c.in-Block.inner.value.items)) c.args.stack.now c.put_one.new.self (push_one c.in-Block.kind c.args.stack.now) c.put_one.result
    (λ e. block_exact (context_of c.args.self.now) c.args.labels.now c.in-Block.kind (views c.in-Block.inner.value.items) c.args.stack.now c.put_one.new.self (rw (← within) c.in_ok-body-in-Block.ensures.judges) e) c.put_one.ensures)

pub step-returns-in_err-body-in-Loop-clause-follows : goal.step-returns-in_err-body-in-Loop-clause-follows
step-returns-in_err-body-in-Loop-clause-follows t c =
    let within = c.deref-in-Loop-2.ensures.value ∙ ap (λ (v : Vec Instr Global). v.items) c.deref-in-Loop.ensures in
    rw (ap view c.in-Loop.is ∙ view_loop c.in-Loop.kind c.in-Loop.inner) (follows_err (context_of c.args.self.now) c.args.labels.now _ c.args.stack.now _ _ c.in_err-body-in-Loop.field-0.0 c.from_residual-in_err-body-in-Loop.ensures
    (loop_not (context_of c.args.self.now) c.args.labels.now c.in-Loop.kind (views c.in-Loop.inner.value.items) c.args.stack.now c.in_err-body-in-Loop.field-0.0 (rw (← within) c.in_err-body-in-Loop.ensures.judges)))

pub step-returns-in_ok-body-in-Loop-clause-follows : goal.step-returns-in_ok-body-in-Loop-clause-follows
step-returns-in_ok-body-in-Loop-clause-follows t c =
    let within = c.deref-in-Loop-2.ensures.value ∙ ap (λ (v : Vec Instr Global). v.items) c.deref-in-Loop.ensures in
    rw (ap view c.in-Loop.is ∙ view_loop c.in-Loop.kind c.in-Loop.inner) (put_follows (context_of c.args.self.now) c.args.labels.now (Loop c.in-Loop.kind (views c.in-Loop.inner.value.items)) c.args.stack.now c.put_one-in-Loop.new.self (push_one c.in-Loop.kind c.args.stack.now) c.put_one-in-Loop.result
    (λ e. loop_exact (context_of c.args.self.now) c.args.labels.now c.in-Loop.kind (views c.in-Loop.inner.value.items) c.args.stack.now c.put_one-in-Loop.new.self (rw (← within) c.in_ok-body-in-Loop.ensures.judges) e) c.put_one-in-Loop.ensures)

pub step-returns-in_err-take-in-If-clause-follows : goal.step-returns-in_err-take-in-If-clause-follows
step-returns-in_err-take-in-If-clause-follows t c =
    rw (ap view c.in-If.is ∙ view_if c.in-If.kind c.in-If.inner c.in-If.other) (follows_err (context_of c.args.self.now) c.args.labels.now _ c.args.stack.now _ _ c.in_err-take-in-If.field-0.0 c.from_residual-in_err-take-in-If.ensures
    (choice_not (context_of c.args.self.now) c.args.labels.now c.in-If.kind (views c.in-If.inner.value.items) (views c.in-If.other.value.items) c.args.stack.now c.in_err-take-in-If.field-0.0 c.in_err-take-in-If.ensures))

pub step-returns-in_err-body-in-If-clause-follows : goal.step-returns-in_err-body-in-If-clause-follows
step-returns-in_err-body-in-If-clause-follows t c =
    let within = c.deref-in-If-2.ensures.value ∙ ap (λ (v : Vec Instr Global). v.items) c.deref-in-If.ensures in
    rw (ap view c.in-If.is ∙ view_if c.in-If.kind c.in-If.inner c.in-If.other) (follows_err (context_of c.args.self.now) c.args.labels.now _ c.args.stack.now _ _ c.in_err-body-in-If.field-0.0 c.from_residual-in_err-body-in-If.ensures
    (choice_first (context_of c.args.self.now) c.args.labels.now c.in-If.kind (views c.in-If.inner.value.items) (views c.in-If.other.value.items) c.args.stack.now c.in_err-body-in-If.field-0.0 (rw (← within) c.in_err-body-in-If.ensures.judges)))

pub step-returns-in_err-body-in-If-2-clause-follows : goal.step-returns-in_err-body-in-If-2-clause-follows
step-returns-in_err-body-in-If-2-clause-follows t c =
    let other = c.deref-in-If-4.ensures.value ∙ ap (λ (v : Vec Instr Global). v.items) c.deref-in-If-3.ensures in
    rw (ap view c.in-If.is ∙ view_if c.in-If.kind c.in-If.inner c.in-If.other) (follows_err (context_of c.args.self.now) c.args.labels.now _ c.args.stack.now _ _ c.in_err-body-in-If-2.field-0.0 c.from_residual-in_err-body-in-If-2.ensures
    (choice_second (context_of c.args.self.now) c.args.labels.now c.in-If.kind (views c.in-If.inner.value.items) (views c.in-If.other.value.items) c.args.stack.now c.in_err-body-in-If-2.field-0.0 (rw (← c.in_ok-body-in-If.ensures.kept) (rw (← other) c.in_err-body-in-If-2.ensures.judges))))

pub step-returns-in_ok-body-in-If-2-clause-follows : goal.step-returns-in_ok-body-in-If-2-clause-follows
step-returns-in_ok-body-in-If-2-clause-follows t c =
    let within = c.deref-in-If-2.ensures.value ∙ ap (λ (v : Vec Instr Global). v.items) c.deref-in-If.ensures in
    let other = c.deref-in-If-4.ensures.value ∙ ap (λ (v : Vec Instr Global). v.items) c.deref-in-If-3.ensures in
    rw (ap view c.in-If.is ∙ view_if c.in-If.kind c.in-If.inner c.in-If.other) (put_follows (context_of c.args.self.now) c.args.labels.now (If c.in-If.kind (views c.in-If.inner.value.items) (views c.in-If.other.value.items)) c.args.stack.now c.put_one-in-If.new.self (push_one c.in-If.kind c.take.new.self) c.put_one-in-If.result
    (λ e. choice_exact (context_of c.args.self.now) c.args.labels.now c.in-If.kind (views c.in-If.inner.value.items) (views c.in-If.other.value.items) c.args.stack.now c.take.new.self c.put_one-in-If.new.self c.in_ok-take-in-If.ensures
    (rw (← within) c.in_ok-body-in-If.ensures.judges) (rw (← c.in_ok-body-in-If.ensures.kept) (rw (← other) c.in_ok-body-in-If-2.ensures.judges)) e) c.put_one-in-If.ensures)

pub body-returns-in_err-step-clause-judges : goal.body-returns-in_err-step-clause-judges
body-returns-in_err-step-clause-judges t c = judges_err (CodeOk (context_of c.args.self.now) (c.args.label ∷ c.args.labels.now) (views c.args.code.now) [] (one c.args.gives)) c.from_residual-in_err-step.result c.in_err-step.field-0.0 c.from_residual-in_err-step.ensures
    (so_far_stuck (context_of c.args.self.now) (c.args.label ∷ c.args.labels.now) c.args.code.now c.loop-i.i-index c.i-item.result c.loop-i.stack c.args.gives c.in_err-step.field-0.0 c.loop-i-test.true c.i-item.is c.loop-i.invariant.runs
    (rw (← c.loop-i.invariant.labels_are) c.in_err-step.ensures.follows))

pub body-loop-i-preserved : goal.body-loop-i-preserved
body-loop-i-preserved t c = record {
  labels_are = c.in_ok-step.ensures.kept ∙ c.loop-i.invariant.labels_are;
  runs = so_far_step (context_of c.args.self.now) (c.args.label ∷ c.args.labels.now) c.args.code.now c.loop-i.i-index c.i-item.result c.loop-i.stack c.step.new.stack c.loop-i-test.true c.i-item.is
      (rw (← c.loop-i.invariant.labels_are) c.in_ok-step.ensures.follows) c.loop-i.invariant.runs;
}

pub body-returns-clause-judges : goal.body-returns-clause-judges
body-returns-clause-judges t c = so_far_end (context_of c.args.self.now) (c.args.label ∷ c.args.labels.now) c.args.code.now c.loop-i.i-index c.loop-i.stack c.args.gives c.end.result (omega arith) c.loop-i.invariant.runs c.end.ensures
