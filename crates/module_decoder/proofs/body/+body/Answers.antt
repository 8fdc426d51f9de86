use Rattle.std.proofs.Common.{◌≡◌, ◌-◌, ◌∙◌, length, arith, refl, sym, Some}
use Rattle.wasm_types.specs.Syntax.{Block, Loop}
use Rattle.wasm_types.specs.View.{view, views}
use Rattle.module_decoder.specs.declared.fault.DecodeFault.TheVariants.{TooLarge}
use Rattle.module_decoder.specs.declared.body.Step.TheVariants.{Ends, Opens}
use Rattle.module_decoder.specs.Reading.{block_type_at, body_at, step_at}
use Rattle.module_decoder.proofs.Loops.{body_zero}
use Rattle.module_decoder.proofs.Steps.{fails, instrs_begun, instrs_end, made_is, one_body, one_instr, one_side, opened, took, two_sides}
use Rattle.module_decoder.proofs.body.+body.Goals as goal

pub body_of-returns-then-limit-eq0 : goal.body_of-returns-then-limit-eq0
body_of-returns-then-limit-eq0 t c =
    let r = c.args.reader.now in
    fails TooLarge (body_at r.span c.args.limit r.rest.now) c.fail.ensures.span c.fail.ensures.fault (body_zero r.span c.args.limit r.rest.now c.if-limit-eq0.true)

pub body_of-loop-init : goal.body_of-loop-init
body_of-loop-init t c = rw c.new-instrs.ensures.items (instrs_begun c.args.reader.now c.args.limit (length c.args.reader.now.rest.now - 0) (omega arith) (omega arith))

pub body_of-returns-in-Some-Ends-default : goal.body_of-returns-in-Some-Ends-default
body_of-returns-in-Some-Ends-default t c =
    let at : step_at c.loop.reader.rest.now ≡ Some (Ends c.in-Some-Ends-default.ending, c.in-Some-Ends-default.after.now) = rw c.in-Some-Ends-default.field-0-0-is at c.in-Some-Ends-default.ensures in
    rw c.shrink_to_fit.ensures.items (instrs_end (c.args.limit - 1) (views c.loop.instrs.items) (length c.args.reader.now.rest.now) c.loop.counter c.in-Some-Ends-default.ending c.loop.invariant c.loop-test.true at refl refl)

pub body_of-loop-preserved : goal.body_of-loop-preserved
body_of-loop-preserved t c =
    let at : step_at c.loop.reader.rest.now ≡ Some (Opens c.in-Some-Opens-default.lead, c.in-Some-Opens-default.after.now) = rw c.in-Some-Opens-default.field-0-0-is at c.in-Some-Opens-default.ensures in
    one_instr (c.args.limit - 1) c.loop.instrs.items c.push.new.items.items c.instr-next.result (length c.args.reader.now.rest.now) c.loop.counter c.in-Some-Opens-default.lead c.loop.invariant c.instr-next.ensures c.push.ensures c.loop-test.true at refl refl

pub nested-returns-in-Block : goal.nested-returns-in-Block
nested-returns-in-Block t c =
    let kind = took (λ k. k) c.block_type.result (block_type_at c.args.reader.now.span c.args.reader.now.rest.now) c.take-kind.ensures.span c.take-kind.ensures.took c.block_type.ensures in
    rw c.in-Block.is (one_body Block c.args.limit (views c.body_of-first.result.instrs.items) c.body_of-first.result.ending kind c.body_of-first.ensures c.end.ensures
    (made_is view c.block.result c.made.ensures.span c.made.ensures.rest c.made.ensures.made c.block.ensures))

pub nested-returns-in-Loop : goal.nested-returns-in-Loop
nested-returns-in-Loop t c =
    let kind = took (λ k. k) c.block_type.result (block_type_at c.args.reader.now.span c.args.reader.now.rest.now) c.take-kind.ensures.span c.take-kind.ensures.took c.block_type.ensures in
    rw c.in-Loop.is (one_body Loop c.args.limit (views c.body_of-first.result.instrs.items) c.body_of-first.result.ending kind c.body_of-first.ensures c.end-in-Loop.ensures
    (made_is view c.repeated.result c.made-in-Loop.ensures.span c.made-in-Loop.ensures.rest c.made-in-Loop.ensures.made c.repeated.ensures))

pub nested-returns-in-End : goal.nested-returns-in-End
nested-returns-in-End t c =
    let kind = took (λ k. k) c.block_type.result (block_type_at c.args.reader.now.span c.args.reader.now.rest.now) c.take-kind.ensures.span c.take-kind.ensures.took c.block_type.ensures in
    rw c.in-If.is (one_side c.args.limit (views c.body_of-first.result.instrs.items) c.body_of-first.result.ending kind c.body_of-first.ensures c.in-End.is
    (made_is view c.choice.result c.made-in-End.ensures.span c.made-in-End.ensures.rest c.made-in-End.ensures.made (rw c.new-empty.ensures.items at c.choice.ensures)))

pub nested-returns-in-Else : goal.nested-returns-in-Else
nested-returns-in-Else t c =
    let kind = took (λ k. k) c.block_type.result (block_type_at c.args.reader.now.span c.args.reader.now.rest.now) c.take-kind.ensures.span c.take-kind.ensures.took c.block_type.ensures in
    rw c.in-If.is (two_sides c.args.limit (views c.body_of-first.result.instrs.items) c.body_of-first.result.ending (views c.body_of-second.result.instrs.items) c.body_of-second.result.ending kind c.body_of-first.ensures c.in-Else.is c.body_of-second.ensures c.end-in-Else.ensures
    (made_is view c.choice-both.result c.made-in-Else.ensures.span c.made-in-Else.ensures.rest c.made-in-Else.ensures.made c.choice-both.ensures))

pub instr-returns-in-Some : goal.instr-returns-in-Some
instr-returns-in-Some t c = rw (opened c.args.reader.now.span (body_at c.args.reader.now.span c.args.limit) c.args.lead c.in-Some.opener c.args.reader.now.rest.now (sym c.opener_of.ensures ∙ c.in-Some.is)) c.nested.ensures

pub instr-returns-in-None : goal.instr-returns-in-None
instr-returns-in-None t c = c.plain.ensures (body_at c.args.reader.now.span c.args.limit)
