use Rattle.std.proofs.Common.{◌≡◌, map}
use Rattle.mid_program.specs.View.{view_kind}
use Rattle.value_kinds.specs.Applied.{is_unboxed}
use Rattle.value_kinds.proofs.Views.{Done, GlobalDone}
use Rattle.value_kinds.proofs.program.lane_globals.Given as goal

abbrev pub invariant-loop-global : goal.invariant-loop-global
invariant-loop-global l = record {
  place : l.place ≡ l.global-index;
  done : Done (GlobalDone (is_unboxed (map view_kind l.lanes)) (is_unboxed (map view_kind l.numbers))) l.global-index l.global-items l.fn.globals.items;
}
