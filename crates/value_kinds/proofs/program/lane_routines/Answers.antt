use Rattle.std.proofs.Common.{get_or, length, drop, map, ap, ◌∙◌, arith}
use Rattle.mid_program.specs.Mid as plain
use Rattle.mid_program.specs.View.{view_kind, view_routine}
use Rattle.value_kinds.specs.Applied.{routine_with}
use Rattle.value_kinds.specs.View.{view_lanes}
use Rattle.value_kinds.proofs.Views.{RoutineDone, done_next, routines_done, written_back}
use Rattle.value_kinds.proofs.program.lane_routines.Goals as goal

pub loop-routine-preserved : goal.loop-routine-preserved
loop-routine-preserved c =
    let gs = (view_lanes c.args.lanes.now).globals in
    let pss = (view_lanes c.args.lanes.now).parameters in
    record {
      place = omega arith;
      done = done_next (RoutineDone gs (plain.parameters_at pss)) c.loop-routine.routine-index c.loop-routine.routine-items c.args.routines.now.items c.routine-item.result c.lane_routine.new.routine (omega arith)
          c.loop-routine.invariant.done
          (c.lane_routine.ensures ∙ (λ j. routine_with (map view_kind (c.deref.ensures.value j)) ((c.parameters_at.ensures ∙ ap (plain.parameters_at pss) c.loop-routine.invariant.place) j)
          (view_routine (get_or c.loop-routine.routine-items c.loop-routine.routine-index c.routine-item.result))));
    }

pub returns : goal.returns
returns c =
    ap (map view_routine) (written_back c.args.routines.now.len c.loop-routine.routine-items (drop (length c.loop-routine.routine-items) c.args.routines.now.items) (omega arith))
    ∙ routines_done (view_lanes c.args.lanes.now).globals (plain.parameters_at (view_lanes c.args.lanes.now).parameters) c.loop-routine.routine-index c.loop-routine.routine-items c.args.routines.now.items (omega arith)
    c.loop-routine.invariant.done
