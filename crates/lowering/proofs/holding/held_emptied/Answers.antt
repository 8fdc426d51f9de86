use Rattle.std.proofs.Common.{sym, arith}
use Rattle.lower_pieces.proofs.Appended.{◌⨟◌, same}
use Rattle.lowering.proofs.Holdings.{emptied_step}
use Rattle.lowering.proofs.holding.held_emptied.Goals as goal

pub loop-place-preserved : goal.loop-place-preserved
loop-place-preserved c = λ k.
    (rw c.local.ensures at c.emptied.ensures) _
    ⨟ same (sym (emptied_step c.args.held c.args.bases.now c.loop-place.place c.count-count.result k (omega arith))) ⨟ c.loop-place.invariant k
