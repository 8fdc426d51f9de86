use Rattle.std.proofs.Common.{◌≡◌, map, drop}
use Rattle.mid_program.specs.View.{view_routine}
use Rattle.value_kinds.specs.Lanes.{marked, routines_visited, seen}
use Rattle.value_kinds.specs.View.{view_lanes, view_scan}
use Rattle.value_kinds.proofs.inference.mark_routines.Given as goal

abbrev pub invariant-loop-place : goal.invariant-loop-place
invariant-loop-place l = record {
  numbers : view_lanes l.walk.numbers ≡ view_lanes l.fn.walk.numbers;
  lanes : routines_visited (marked (view_lanes l.walk.numbers)) l.place (view_lanes l.walk.lanes) (map view_routine (drop l.place l.routines)) ≡ routines_visited (marked (view_lanes l.fn.walk.numbers)) 0 (view_lanes l.fn.walk.lanes) (map view_routine l.routines);
  scan : routines_visited seen l.place (view_scan l.walk.scan) (map view_routine (drop l.place l.routines)) ≡ routines_visited seen 0 (view_scan l.fn.walk.scan) (map view_routine l.routines);
}
