use Rattle.std.proofs.Common.{◌≡◌, ◌≤◌, ◌∷◌, ◌++◌, [], None, get_or, arith, sym, ap, ◌∙◌}
use Rattle.std.proofs.lemmas.List.{get_or_default}
use Rattle.host_arrays.proofs.ListingLemmas.{key_part, left_after, left_after_hole, left_within, listed_more_hole, listed_more_key}
use Rattle.host_arrays.proofs.listing.add_parts.Goals as goal
use Rattle.host_arrays.proofs.listing.add_parts.Goals.{in-Some+in_ok-part+in_ok-push, in_default}

pub overflow_sub-end : goal.overflow_sub-end
overflow_sub-end c =
    let order = c.args.order.now in
    let i = c.loop-slot.slot-index in
    let here : get_or order i None ≡ c.slot-item.result = sym (c.slot-item.is ∙ get_or_default order i c.slot-item.result None c.loop-slot-test.true) in
    left_within order i c.in-Some.key c.args.text.now c.len-end.result c.loop-slot.left c.len.result (here ∙ c.in-Some.is) c.requires c.len-end.ensures c.loop-slot.invariant.0 c.len.ensures

pub overflow_sub-end-in-Some : goal.overflow_sub-end-in-Some
overflow_sub-end-in-Some c =
    let order = c.args.order.now in
    let i = c.loop-slot.slot-index in
    let here : get_or order i None ≡ c.slot-item.result = sym (c.slot-item.is ∙ get_or_default order i c.slot-item.result None c.loop-slot-test.true) in
    let within : c.loop-slot.left ≤ c.len-end.result = left_within order i c.in-Some.key c.args.text.now c.len-end.result c.loop-slot.left c.len.result (here ∙ c.in-Some.is) c.requires c.len-end.ensures c.loop-slot.invariant.0 c.len.ensures in
    omega (arith, within)

pub loop-slot-preserved : goal.loop-slot-preserved
loop-slot-preserved c =
    let order = c.args.order.now in
    let i = c.loop-slot.slot-index in
    let end = c.len-end.result in
    let left = c.loop-slot.left in
    let keys = c.loop-slot.keys.items in
    let here : get_or order i None ≡ c.slot-item.result = sym (c.slot-item.is ∙ get_or_default order i c.slot-item.result None c.loop-slot-test.true) in
    elim c.match-slot.branch [
      | in-Some+in_ok-part+in_ok-push w ↦ (let part = w.in_ok-part.ensures ∙ key_part order i w.in-Some.key c.args.text.now end left w.len.result (here ∙ w.in-Some.is) c.requires c.len-end.ensures c.loop-slot.invariant.0 w.len.ensures in
          rw (w.left-is, w.keys-is) (
            left_after order i w.in-Some.key c.args.text.now end left w.len.result (here ∙ w.in-Some.is) c.requires c.len-end.ensures c.loop-slot.invariant.0 w.len.ensures,
            listed_more_key order i c.args.keys.now.items keys c.loop-slot.invariant.1 c.loop-slot-test.true _ w.in-Some.key (here ∙ w.in-Some.is)
                (w.in_ok-push.ensures.items ∙ ap (λ key. keys ++ key ∷ []) part),
          ))
      | in_default w ↦ rw (w.left-is, w.keys-is) (
        left_after_hole order i left c.loop-slot.invariant.0 (here ∙ w.in_default.is),
        listed_more_hole order i c.args.keys.now.items keys c.loop-slot.invariant.1 c.loop-slot-test.true (here ∙ w.in_default.is),
      )
    ]
