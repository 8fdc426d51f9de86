use Rattle.std.proofs.Common.{ℕ, None, get_or, length, drop, map, ap, ◌∙◌, arith}
use Rattle.mid_program.specs.View.{view_kind}
use Rattle.value_kinds.specs.Lanes.{granted}
use Rattle.value_kinds.specs.View.{view_kinds}
use Rattle.value_kinds.proofs.Views.{LenderDone, done_next, lenders_done, written_back}
use Rattle.value_kinds.proofs.lenders.grant.Goals as goal

pub loop-wish-preserved : goal.loop-wish-preserved
loop-wish-preserved c =
    let grants = granted c.args.asked (map view_kind c.args.free.now) c.args.numbered.now (map view_kinds c.args.functions.now) in
    record {
      place = omega arith;
      done = done_next (LenderDone grants) c.loop-wish.wish-index c.loop-wish.wish-items c.args.wishes.now.items None c.granted.result (omega arith) c.loop-wish.invariant.done
          (c.granted.ensures ∙ ap (λ (i : ℕ). grants i (get_or c.loop-wish.wish-items c.loop-wish.wish-index None)) c.loop-wish.invariant.place);
    }

pub returns : goal.returns
returns c =
    let grants = granted c.args.asked (map view_kind c.args.free.now) c.args.numbered.now (map view_kinds c.args.functions.now) in
    written_back c.args.wishes.now.len c.loop-wish.wish-items (drop (length c.loop-wish.wish-items) c.args.wishes.now.items) (omega arith)
    ∙ lenders_done grants c.loop-wish.wish-index c.loop-wish.wish-items c.args.wishes.now.items (omega arith) c.loop-wish.invariant.done
