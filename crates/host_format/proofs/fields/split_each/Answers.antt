use Rattle.std.proofs.Common.{◌+◌, ◌≤◌, [], ap, arith, drop, length}
use Rattle.std.proofs.lemmas.List.{drop_all}
use Rattle.host_format.proofs.Pieces.{all_parts, begun, single_at, singles, with_rest}
use Rattle.host_format.proofs.fields.split_each.Goals as goal

pub loop-at-preserved : goal.loop-at-preserved
loop-at-preserved c =
    c.in_ok-push.ensures c.args.text.now (singles (drop (c.loop-at.at + 1) c.args.text.now)) (singles c.args.text.now) (omega arith) (omega arith)
    (with_rest c.args.text.now c.loop-at.spans.items _ _ (singles c.args.text.now) (single_at c.args.text.now c.loop-at.at (omega arith)) c.loop-at.invariant)

pub loop-at-init : goal.loop-at-init
loop-at-init c = rw (c.reserve.ensures.items, c.requires) (begun c.args.text.now (singles c.args.text.now))

pub returns : goal.returns
returns c =
    let text = c.args.text.now in
    let last : length text ≤ c.loop-at.at = omega arith in
    all_parts text c.loop-at.spans.items (singles text)
    (with_rest text c.loop-at.spans.items _ [] (singles text) (ap singles (drop_all c.loop-at.at text last)) c.loop-at.invariant)
