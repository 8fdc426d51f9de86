use Rattle.std.proofs.Common.{◌≡◌, map}
use Rattle.mid_program.specs.View.{view_kind}
use Rattle.value_kinds.specs.Lanes.{granted}
use Rattle.value_kinds.specs.View.{view_kinds}
use Rattle.value_kinds.proofs.Views.{Done, LenderDone}
use Rattle.value_kinds.proofs.lenders.grant.Given as goal

abbrev pub invariant-loop-wish : goal.invariant-loop-wish
invariant-loop-wish l = record {
  place : l.place ≡ l.wish-index;
  done : Done (LenderDone (granted l.asked (map view_kind l.free) l.numbered (map view_kinds l.functions))) l.wish-index l.wish-items l.fn.wishes.items;
}
