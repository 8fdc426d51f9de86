use Rattle.std.proofs.Common.{◌≡◌}
use Rattle.mid_program.specs.Mid.{parameters_at}
use Rattle.value_kinds.specs.View.{view_lanes}
use Rattle.value_kinds.proofs.Views.{Done, RoutineDone}
use Rattle.value_kinds.proofs.program.lane_routines.Given as goal

abbrev pub invariant-loop-routine : goal.invariant-loop-routine
invariant-loop-routine l = record {
  place : l.place ≡ l.routine-index;
  done : Done (RoutineDone (view_lanes l.lanes).globals (parameters_at (view_lanes l.lanes).parameters)) l.routine-index l.routine-items l.fn.routines.items;
}
