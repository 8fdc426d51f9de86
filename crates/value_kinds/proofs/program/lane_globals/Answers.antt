use Rattle.std.proofs.Common.{get_or, length, drop, map, ap, ◌∙◌, arith}
use Rattle.mid_program.specs.View.{view_declared, view_kind}
use Rattle.value_kinds.specs.Applied.{is_unboxed}
use Rattle.value_kinds.proofs.Views.{GlobalDone, done_next, global_step, globals_done, written_back}
use Rattle.value_kinds.proofs.program.lane_globals.Goals as goal

pub loop-global-preserved : goal.loop-global-preserved
loop-global-preserved c =
    let u = is_unboxed (map view_kind c.args.lanes.now) in
    let n = is_unboxed (map view_kind c.args.numbers.now) in
    let old = get_or c.loop-global.global-items c.loop-global.global-index c.global-item.result in
    record {
      place = omega arith;
      done = done_next (GlobalDone u n) c.loop-global.global-index c.loop-global.global-items c.args.globals.now.items c.global-item.result c.lane_global.new.global (omega arith) c.loop-global.invariant.done
          (global_step u n c.loop-global.global-index c.loop-global.place c.is_unboxed.result c.is_unboxed-in-loop-global.result c.lane_global.new.global old c.is_unboxed.ensures c.is_unboxed-in-loop-global.ensures c.loop-global.invariant.place c.lane_global.ensures);
    }

pub returns : goal.returns
returns c =
    ap (map view_declared) (written_back c.args.globals.now.len c.loop-global.global-items (drop (length c.loop-global.global-items) c.args.globals.now.items) (omega arith))
    ∙ globals_done (is_unboxed (map view_kind c.args.lanes.now)) (is_unboxed (map view_kind c.args.numbers.now)) c.loop-global.global-index c.loop-global.global-items c.args.globals.now.items (omega arith)
    c.loop-global.invariant.done
