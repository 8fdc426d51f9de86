use Rattle.std.proofs.Common.{◌≡◌, ◌++◌, map, drop}
use Rattle.mid_program.specs.View.{view_routine}
use Rattle.value_kinds.specs.Lanes.{opened}
use Rattle.value_kinds.specs.View.{view_kinds}
use Rattle.value_kinds.specs.Walks.{parameters_in}
use Rattle.value_kinds.proofs.inference.open_routines.Given as goal

abbrev pub invariant-loop-routine : goal.invariant-loop-routine
invariant-loop-routine l =
    map view_kinds l.kinds.items ++ map (map opened) (parameters_in (map view_routine (drop l.routine-index l.routines))) ≡ map (map opened) (parameters_in (map view_routine l.routines))
