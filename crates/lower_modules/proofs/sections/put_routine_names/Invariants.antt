use Rattle.std.proofs.Common.{◌≡◌, ◌++◌, map, drop}
use Rattle.mid_program.specs.declared.program.Routine.{Routine}
use Rattle.lower_model.specs.Places.{memory_of}
use Rattle.lower_modules.proofs.sections.put_routine_names.Given as goal

abbrev pub invariant-loop-routine : goal.invariant-loop-routine
invariant-loop-routine l =
    l.bytes.items ++ memory_of (map (λ (r : Routine). r.name.items) (drop l.routine-index l.routines)) ≡ l.fn.bytes.items ++ memory_of (map (λ (r : Routine). r.name.items) l.routines)
