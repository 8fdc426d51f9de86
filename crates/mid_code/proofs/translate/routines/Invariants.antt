use Rattle.std.proofs.Common.{◌≡◌, ◌++◌, drop, map}
use Rattle.awk_resolve.specs.ViewFunctions.{view_functions}
use Rattle.sem_scripts.specs.Kinds.{with_bodies}
use Rattle.mid_program.specs.Translation.{routine_code}
use Rattle.mid_program.specs.View.{view_routine, view_texts}
use Rattle.mid_code.specs.ViewNames.{script_of, view_bodies}
use Rattle.mid_code.proofs.translate.routines.Given as goal

abbrev pub invariant-loop-i : goal.invariant-loop-i
invariant-loop-i l =
    map view_routine l.found.items ++ map (routine_code (view_texts l.texts.keys) (script_of l.names.resolved.now)) (with_bodies (view_functions (drop l.i l.functions.items)) (view_bodies (drop l.i l.bodies)))
    ≡ map (routine_code (view_texts l.texts.keys) (script_of l.names.resolved.now)) (with_bodies (view_functions l.functions.items) (view_bodies l.bodies))
