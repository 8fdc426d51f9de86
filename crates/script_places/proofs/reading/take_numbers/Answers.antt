use Rattle.std.proofs.Common.{◌∙◌}
use Rattle.wasm_types.specs.Leb128Texts.{u32_at}
use Rattle.script_places.proofs.Loops.{one_more}
use Rattle.script_places.proofs.reading.take_numbers.Goals as goal

pub loop-preserved : goal.loop-preserved
loop-preserved c =
    rw c.in_ok-push.ensures.items
    (one_more u32_at c.loop.made.items c.loop.counter c.args.count c.loop.rest.now c.in_ok-number.number c.in_ok-number.after.now c.loop-test.true c.in_ok-number.ensures ∙ c.loop.invariant)
