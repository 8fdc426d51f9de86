use Rattle.std.proofs.Common.{◌≡◌, ◌++◌, true, drop, map}
use Rattle.std.specs.List.{AllByRecursion}
use Rattle.mid_program.specs.Sorted.{routines_sorted}
use Rattle.mid_program.specs.View.{view_mid, view_routine}
use Rattle.lower_model.specs.Functions.{routine_callee}
use Rattle.lower_modules.specs.View.{view_functions}
use Rattle.lowering.specs.Limits.{RoutineIsSmall}
use Rattle.lowering.proofs.script.routine_functions.Given as goal

abbrev pub invariant-loop-routine : goal.invariant-loop-routine
invariant-loop-routine l =
    let rs = l.fn.layout.program.now.routines.items in
    let p = view_mid l.fn.layout.program.now in
    record {
      functions : view_functions l.all.items ++ map (routine_callee p) (map view_routine (drop l.routine-index rs)) ≡ map (routine_callee p) (map view_routine rs);
      sorted : routines_sorted p (map view_routine (drop l.routine-index rs)) ≡ true;
      on : AllByRecursion RoutineIsSmall (map view_routine (drop l.routine-index rs)) → AllByRecursion RoutineIsSmall (map view_routine rs);
      off : AllByRecursion RoutineIsSmall (map view_routine rs) → AllByRecursion RoutineIsSmall (map view_routine (drop l.routine-index rs));
    }
