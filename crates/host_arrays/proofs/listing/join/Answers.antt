use Rattle.std.proofs.Common.{◌≡◌, ◌++◌, None, get_or, sym, ap, ◌∙◌}
use Rattle.std.proofs.lemmas.List.{get_or_default}
use Rattle.host_arrays.proofs.ListingLemmas.{joined_more_hole, joined_more_key}
use Rattle.host_arrays.proofs.listing.join.Goals as goal
use Rattle.host_arrays.proofs.listing.join.Goals.{in-Some+in_ok-extend_from_slice, in_default}

pub loop-slot-preserved : goal.loop-slot-preserved
loop-slot-preserved c =
    let order = c.args.order.now in
    let i = c.loop-slot.slot-index in
    let bytes = c.loop-slot.bytes.items in
    let here : get_or order i None ≡ c.slot-item.result = sym (c.slot-item.is ∙ get_or_default order i c.slot-item.result None c.loop-slot-test.true) in
    elim c.match-slot.branch [
      | in-Some+in_ok-extend_from_slice w ↦ rw w.bytes-is
          (joined_more_key order i bytes c.loop-slot.invariant c.loop-slot-test.true _ w.in-Some.key (here ∙ w.in-Some.is)
          (w.in_ok-extend_from_slice.ensures.items ∙ ap (λ more. bytes ++ more) w.as_slice.ensures))
      | in_default w ↦ rw w.bytes-is (joined_more_hole order i bytes c.loop-slot.invariant c.loop-slot-test.true (here ∙ w.in_default.is))
    ]
