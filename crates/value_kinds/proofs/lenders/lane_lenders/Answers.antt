use Rattle.std.proofs.Common.{None, length, drop, ap, ◌∙◌, arith}
use Rattle.mid_program.specs.Sorted.{lender_at}
use Rattle.value_kinds.proofs.Views.{LenderDone, done_next, lenders_done, written_back}
use Rattle.value_kinds.proofs.lenders.lane_lenders.Goals as goal

pub loop-lender-preserved : goal.loop-lender-preserved
loop-lender-preserved c = record {
  place = omega arith;
  done = done_next (LenderDone (λ i o. lender_at c.args.lenders.now i)) c.loop-lender.lender-index c.loop-lender.lender-items c.args.places.now.items None c.lender_at.result (omega arith) c.loop-lender.invariant.done
      (c.lender_at.ensures ∙ ap (lender_at c.args.lenders.now) c.loop-lender.invariant.place);
}

pub returns : goal.returns
returns c =
    written_back c.args.places.now.len c.loop-lender.lender-items (drop (length c.loop-lender.lender-items) c.args.places.now.items) (omega arith)
    ∙ lenders_done (λ i o. lender_at c.args.lenders.now i) c.loop-lender.lender-index c.loop-lender.lender-items c.args.places.now.items (omega arith) c.loop-lender.invariant.done
