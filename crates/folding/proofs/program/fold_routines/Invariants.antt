use Rattle.folding.proofs.Views.{Done, RoutineDone}
use Rattle.folding.proofs.program.fold_routines.Given as goal

abbrev pub invariant-loop-routine : goal.invariant-loop-routine
invariant-loop-routine l = Done RoutineDone l.routine-index l.routine-items l.fn.routines.items
