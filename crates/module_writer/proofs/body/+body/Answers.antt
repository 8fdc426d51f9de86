use Rattle.std.proofs.Common.{ℕ, ◌-◌, List, ap, ◌∙◌, arith}
use Rattle.std.specs.declared.vec.Vec.{Vec}
use Rattle.std.specs.declared.alloc.Global.{Global}
use Rattle.wasm_types.specs.declared.instr.Instr.{Instr}
use Rattle.wasm_types.specs.Leb128Texts.{and_then}
use Rattle.wasm_types.specs.View.{view, views}
use Rattle.wasm_types.proofs.Views.{view_block, view_loop, view_if}
use Rattle.module_writer.specs.Outputs.{Adds}
use Rattle.module_writer.specs.Writers.{Written, byte_to}
use Rattle.module_writer.specs.Writing.{opened_to, else_to, instrs_to}
use Rattle.module_writer.proofs.Loops.{both, inside, opened, else_none, else_some, without_others, one_more_instr, all_instrs}
use Rattle.module_writer.proofs.body.+body.Goals.{block-in-len1-up, block-in-empty}
use Rattle.module_writer.proofs.body.+body.Goals as goal

pub block-returns : goal.block-returns
block-returns t c =
    let others = views c.args.other.now in
    let rest : List ℕ → Written = instrs_to (c.args.limit - 1) others in
    let added : Adds c.instrs.new.out c.if-other-lt1.out (else_to others rest c.instrs.new.out.bytes.items) =
    elim c.if-other-lt1.branch [
      | block-in-len1-up w ↦ rw (else_some c.args.other.now rest c.instrs.new.out.bytes.items (omega arith), w.out-is) (both (byte_to 0x05 c.instrs.new.out.bytes.items) rest w.byte-in-len1-up.ensures w.instrs-in-len1-up.ensures)
      | block-in-empty w ↦ rw w.out-is (else_none c.args.other.now rest c.instrs.new.out (omega arith))
    ] in
    let inner : ℕ → List ℕ → Written = λ e o. and_then (instrs_to e (views c.args.inner.now) o) (else_to others (instrs_to e others)) in
    inside c.args.limit (λ e. opened_to c.args.opcode c.args.kind (inner e)) (omega arith)
    (opened c.args.opcode c.args.kind (inner (c.args.limit - 1)) c.byte.ensures (rw c.block_code.ensures at c.byte-2.ensures)
    (both (instrs_to (c.args.limit - 1) (views c.args.inner.now) c.byte-2.new.self.bytes.items) (else_to others rest) c.instrs.ensures added) c.byte-3.ensures)

pub instr-returns-in-Block : goal.instr-returns-in-Block
instr-returns-in-Block t c =
    let held = c.deref-in-Block-2.ensures.value ∙ ap (λ (v : Vec Instr Global). v.items) c.deref-in-Block.ensures in
    rw (ap view c.in-Block.is ∙ view_block c.in-Block.kind c.in-Block.inner, ← without_others c.args.limit 0x02 c.in-Block.kind (views c.in-Block.inner.value.items) c.args.out.now.bytes.items, ← held) c.block.ensures

pub instr-returns-in-Loop : goal.instr-returns-in-Loop
instr-returns-in-Loop t c =
    let held = c.deref-in-Loop-2.ensures.value ∙ ap (λ (v : Vec Instr Global). v.items) c.deref-in-Loop.ensures in
    rw (ap view c.in-Loop.is ∙ view_loop c.in-Loop.kind c.in-Loop.inner, ← without_others c.args.limit 0x03 c.in-Loop.kind (views c.in-Loop.inner.value.items) c.args.out.now.bytes.items, ← held) c.block-in-Loop.ensures

pub instr-returns-in-If : goal.instr-returns-in-If
instr-returns-in-If t c =
    let held = c.deref-in-If-2.ensures.value ∙ ap (λ (v : Vec Instr Global). v.items) c.deref-in-If.ensures in
    let other = c.deref-in-If-4.ensures.value ∙ ap (λ (v : Vec Instr Global). v.items) c.deref-in-If-3.ensures in
    rw (ap view c.in-If.is ∙ view_if c.in-If.kind c.in-If.then c.in-If.other) (rw (← held, ← other) c.block-in-If.ensures)

pub instrs-loop-i-preserved : goal.instrs-loop-i-preserved
instrs-loop-i-preserved t c = λ end k. c.loop-i.invariant end (one_more_instr c.args.limit c.args.all.now c.loop-i.i-index c.i-item.result c.loop-i-test.true c.i-item.is c.instr.ensures k)

pub instrs-returns : goal.instrs-returns
instrs-returns t c = c.loop-i.invariant c.loop-i.out (all_instrs c.args.limit c.args.all.now c.loop-i.out c.loop-i.i-index c.loop-i-test.false)
