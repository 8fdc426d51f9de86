use Rattle.std.proofs.Common.{length, drop, map, ap, ◌∙◌, arith}
use Rattle.mid_program.specs.View.{view_kind}
use Rattle.value_kinds.specs.Applied.{is_unboxed}
use Rattle.value_kinds.proofs.Views.{KindDone, done_next, kind_step, kinds_done, written_back}
use Rattle.value_kinds.proofs.program.lane_kinds.Goals as goal

pub loop-kind-preserved : goal.loop-kind-preserved
loop-kind-preserved c =
    let u = is_unboxed (map view_kind c.args.lanes.now) in
    record {
      place = omega arith;
      done = done_next (KindDone u) c.loop-kind.kind-index c.loop-kind.kind-items c.args.kinds.now.items _ c.lane_kind.new.kind (omega arith) c.loop-kind.invariant.done
          (kind_step u c.loop-kind.kind-index c.loop-kind.place c.is_unboxed.result c.lane_kind.new.kind _ c.is_unboxed.ensures c.loop-kind.invariant.place c.lane_kind.ensures);
    }

pub returns : goal.returns
returns c =
    ap (map view_kind) (written_back c.args.kinds.now.len c.loop-kind.kind-items (drop (length c.loop-kind.kind-items) c.args.kinds.now.items) (omega arith))
    ∙ kinds_done (is_unboxed (map view_kind c.args.lanes.now)) c.loop-kind.kind-index c.loop-kind.kind-items c.args.kinds.now.items (omega arith) c.loop-kind.invariant.done
