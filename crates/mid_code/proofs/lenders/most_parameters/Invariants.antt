use Rattle.std.proofs.Common.{◌≡◌, drop, map, max}
use Rattle.mid_program.specs.Translation.{most_parameters}
use Rattle.mid_program.specs.View.{view_routine}
use Rattle.mid_code.proofs.lenders.most_parameters.Given as goal

abbrev pub invariant-loop-routine : goal.invariant-loop-routine
invariant-loop-routine l = max l.most (most_parameters (map view_routine (drop l.routine-index l.routines))) ≡ most_parameters (map view_routine l.routines)
