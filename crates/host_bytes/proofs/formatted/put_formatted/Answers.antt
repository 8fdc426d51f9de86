use Rattle.std.proofs.Common.{◌+◌, ◌≤◌, ap, arith, drop, length, length-drop, subst, sym, ◌∙◌}
use Rattle.sem_primitives.specs.Formats.{conversion_at}
use Rattle.host_bytes.specs.Conversions.{piece_is}
use Rattle.host_bytes.proofs.Rests.{rest_of}
use Rattle.host_bytes.proofs.Steps.{goes_directive, goes_end, goes_malformed, goes_plain}
use Rattle.host_bytes.proofs.formatted.put_formatted.Goals as goal

pub returns-in_default-split_directive : goal.returns-in_default-split_directive
returns-in_default-split_directive c =
    let out = c.loop-at.out in
    let next = c.put.new.self in
    let last = c.refuse.new.self in
    let rest = c.loop-at.rest.now in
    let at = c.in-Some.at in
    let left = c.loop-at.left.now in
    goes_malformed next.stop last.stop c.args.format.now c.args.values.now next.bytes.items last.bytes.items (drop (at + 1) rest) left
    (goes_plain out.stop next.stop c.args.format.now c.args.values.now out.bytes.items next.bytes.items rest left at c.loop-at.invariant.goes_on c.in-Some.ensures c.put.ensures.stands)
    (ap (λ xs. (conversion_at xs).0) (sym (rest_of rest (at + 1))) ∙ c.in_default-split_directive.ensures.value) c.refuse.ensures.stands

pub loop-at-preserved : goal.loop-at-preserved
loop-at-preserved c =
    let out = c.loop-at.out in
    let next = c.put.new.self in
    let last = c.put_directive-left.new.out in
    let rest = c.loop-at.rest.now in
    let at = c.in-Some.at in
    let left = c.loop-at.left.now in
    let after = c.in-Some-split_directive.after.now in
    let shorter = subst (λ xs. length after ≤ length xs) (rest_of rest (at + 1)) c.in-Some-split_directive.ensures.shorter in
    record {
      short = (let short = c.loop-at.invariant.short in omega (arith, shorter, short, length-drop (at + 1) rest));
      goes_on = goes_directive next.stop last.stop c.args.format.now c.args.values.now next.bytes.items last.bytes.items (drop (at + 1) rest) left (piece_is c.in-Some-split_directive.directive) after c.put_directive-left.result.now
          (goes_plain out.stop next.stop c.args.format.now c.args.values.now out.bytes.items next.bytes.items rest left at c.loop-at.invariant.goes_on c.in-Some.ensures c.put.ensures.stands)
          (ap conversion_at (sym (rest_of rest (at + 1))) ∙ c.in-Some-split_directive.ensures.value) shorter c.put_directive-left.ensures.text.stands c.put_directive-left.ensures.left;
    }

pub returns : goal.returns
returns c =
    let out = c.loop-at.out in
    let last = c.put-2.new.self in
    goes_end out.stop last.stop c.args.format.now c.args.values.now out.bytes.items last.bytes.items c.loop-at.rest.now c.loop-at.left.now c.loop-at.invariant.goes_on c.in_default.ensures c.put-2.ensures.stands
