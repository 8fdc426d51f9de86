use Rattle.std.proofs.Common.{length, drop, map, ap, ◌∙◌, arith}
use Rattle.mid_program.specs.View.{view_routine}
use Rattle.folding.proofs.Views.{RoutineDone, done_next, routines_done, written_back}
use Rattle.folding.proofs.program.fold_routines.Goals as goal

pub loop-routine-preserved : goal.loop-routine-preserved
loop-routine-preserved c =
    done_next RoutineDone c.loop-routine.routine-index c.loop-routine.routine-items c.args.routines.now.items c.routine-item.result c.fold_routine.new.routine (omega arith) c.loop-routine.invariant c.fold_routine.ensures

pub returns : goal.returns
returns c =
    ap (map view_routine) (written_back c.args.routines.now.len c.loop-routine.routine-items (drop (length c.loop-routine.routine-items) c.args.routines.now.items) (omega arith))
    ∙ routines_done c.loop-routine.routine-index c.loop-routine.routine-items c.args.routines.now.items (omega arith) c.loop-routine.invariant
