use Rattle.std.proofs.Common.{◌≡◌, map}
use Rattle.mid_program.specs.View.{view_kind}
use Rattle.value_kinds.specs.Applied.{is_unboxed}
use Rattle.value_kinds.proofs.Views.{Done, KindDone}
use Rattle.value_kinds.proofs.program.lane_kinds.Given as goal

abbrev pub invariant-loop-kind : goal.invariant-loop-kind
invariant-loop-kind l = record {
  place : l.place ≡ l.kind-index;
  done : Done (KindDone (is_unboxed (map view_kind l.lanes))) l.kind-index l.kind-items l.fn.kinds.items;
}
