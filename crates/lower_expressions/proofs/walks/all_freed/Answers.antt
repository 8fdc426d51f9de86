use Rattle.std.proofs.Common.{sym, arith}
use Rattle.lower_pieces.proofs.Appended.{◌⨟◌, same}
use Rattle.lower_expressions.proofs.WalkLemmas.{freed_step}
use Rattle.lower_expressions.proofs.walks.all_freed.Goals as goal

pub loop-left-preserved : goal.loop-left-preserved
loop-left-preserved c = record {
  few = omega arith;
  emits = λ k. c.ask.ensures _ ⨟ (rw c.array.ensures at c.moved_out.ensures) _
      ⨟ same (sym (freed_step c.args.bases.now c.args.arrays c.loop-left.left k (omega arith))) ⨟ c.loop-left.invariant.emits k;
}
