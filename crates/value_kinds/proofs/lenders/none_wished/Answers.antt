use Rattle.std.proofs.Common.{◌∙◌, arith}
use Rattle.value_kinds.proofs.Views.{none_next}
use Rattle.value_kinds.proofs.lenders.none_wished.Goals as goal

pub loop-preserved : goal.loop-preserved
loop-preserved c = none_next c.args.lenders.now c.loop.wishes.items c.push.new.self.items c.loop.index (omega arith) c.in_ok-push.ensures.items ∙ c.loop.invariant
