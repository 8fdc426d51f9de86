use Rattle.std.proofs.Common.{sym, arith}
use Rattle.lower_pieces.proofs.Appended.{◌⨟◌, same}
use Rattle.lowering.proofs.Holdings.{swept_step}
use Rattle.lowering.proofs.holding.held_swept.Goals as goal

pub loop-place-preserved : goal.loop-place-preserved
loop-place-preserved c = λ k.
    (rw c.import-import.ensures at (rw c.local.ensures at c.let_go.ensures)) _
    ⨟ same (sym (swept_step c.args.held c.args.layout.now.bases.now c.loop-place.place c.count-count.result k (omega arith))) ⨟ c.loop-place.invariant k
