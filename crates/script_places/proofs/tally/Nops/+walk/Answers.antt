use Rattle.std.proofs.Common.{ap, ◌∙◌}
use Rattle.std.proofs.lemmas.Result.{on_ok_weaker}
use Rattle.std.specs.declared.vec.Vec.{Vec}
use Rattle.std.specs.declared.alloc.Global.{Global}
use Rattle.wasm_types.specs.declared.instr.Instr.{Instr}
use Rattle.wasm_types.specs.View.{view, views}
use Rattle.wasm_types.proofs.Views.{view_block, view_loop, view_if}
use Rattle.script_places.proofs.Walking.{again, block, choice, next}
use Rattle.script_places.proofs.tally.Nops.+walk.Goals as goal

pub body-loop-instruction-preserved : goal.body-loop-instruction-preserved
body-loop-instruction-preserved t c =
    next c.args.body.now c.loop-instruction.instruction-index c.instruction-item.result c.loop-instruction.self.places.items c.instruction.new.self.places.items c.loop-instruction.self.at c.instruction.new.self.at _ _
    c.loop-instruction-test.true c.instruction-item.is c.in_ok-instruction.ensures c.loop-instruction.invariant

pub instruction-returns-in_ok-pass-in-Block : goal.instruction-returns-in_ok-pass-in-Block
instruction-returns-in_ok-pass-in-Block t c =
    let within = c.deref-in-Block.ensures.value ∙ ap (λ (v : Vec Instr Global). v.items) c.deref.ensures in
    on_ok_weaker c.body.result (λ w. rw (ap view c.in-Block.is ∙ view_block c.in-Block.field-0 c.in-Block.body) (rw (← within) (block c.args.self.now.places.items c.pass-in-Block.new.self.places.items
    c.body.new.self.places.items c.args.self.now.at c.pass-in-Block.new.self.at c.body.new.self.at _ c.in-Block.field-0 (views c.deref-in-Block.result.now) c.in_ok-pass-in-Block.ensures.places c.in_ok-pass-in-Block.ensures.at w))) c.body.ensures

pub instruction-returns-in_ok-pass-in-Loop : goal.instruction-returns-in_ok-pass-in-Loop
instruction-returns-in_ok-pass-in-Loop t c =
    let within = c.deref-in-Loop-2.ensures.value ∙ ap (λ (v : Vec Instr Global). v.items) c.deref-in-Loop.ensures in
    on_ok_weaker c.body-in-Loop.result (λ w. rw (ap view c.in-Loop.is ∙ view_loop c.in-Loop.field-0 c.in-Loop.body) (rw (← within) (again c.args.self.now.places.items c.pass-in-Loop.new.self.places.items
    c.body-in-Loop.new.self.places.items c.args.self.now.at c.pass-in-Loop.new.self.at c.body-in-Loop.new.self.at _ c.in-Loop.field-0 (views c.deref-in-Loop-2.result.now) c.in_ok-pass-in-Loop.ensures.places c.in_ok-pass-in-Loop.ensures.at w))) c.body-in-Loop.ensures

pub instruction-returns-in_ok-body-in-If : goal.instruction-returns-in_ok-body-in-If
instruction-returns-in_ok-body-in-If t c =
    let within = c.deref-in-If-2.ensures.value ∙ ap (λ (v : Vec Instr Global). v.items) c.deref-in-If.ensures in
    let other = c.deref-in-If-4.ensures.value ∙ ap (λ (v : Vec Instr Global). v.items) c.deref-in-If-3.ensures in
    on_ok_weaker c.body-in-If-2.result (λ w. rw (ap view c.in-If.is ∙ view_if c.in-If.field-0 c.in-If.yes c.in-If.no) (rw (← within, ← other) (choice c.args.self.now.places.items c.pass-in-If.new.self.places.items
    c.body-in-If.new.self.places.items c.body-in-If-2.new.self.places.items c.args.self.now.at c.pass-in-If.new.self.at c.body-in-If.new.self.at c.body-in-If-2.new.self.at c.in-If.field-0 (views c.deref-in-If-2.result.now)
    (views c.deref-in-If-4.result.now) c.in_ok-pass-in-If.ensures.places c.in_ok-pass-in-If.ensures.at c.in_ok-body-in-If.ensures w))) c.body-in-If-2.ensures
