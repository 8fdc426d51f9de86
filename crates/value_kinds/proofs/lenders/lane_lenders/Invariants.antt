use Rattle.std.proofs.Common.{◌≡◌}
use Rattle.mid_program.specs.Sorted.{lender_at}
use Rattle.value_kinds.proofs.Views.{Done, LenderDone}
use Rattle.value_kinds.proofs.lenders.lane_lenders.Given as goal

abbrev pub invariant-loop-lender : goal.invariant-loop-lender
invariant-loop-lender l = record {
  place : l.place ≡ l.lender-index;
  done : Done (LenderDone (λ i o. lender_at l.lenders i)) l.lender-index l.lender-items l.fn.places.items;
}
