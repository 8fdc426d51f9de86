use Rattle.std.proofs.Common.{◌≡◌, Some, None, is_some, get_or, sym, ap, ◌∙◌, true≢false}
use Rattle.std.proofs.lemmas.List.{get_or_default}
use Rattle.std.specs.Option.{option_copied_mut}
use Rattle.host_arrays.specs.Order.{held_in, kept_value}
use Rattle.host_arrays.proofs.PlaceLemmas.{renumbers-hole, renumbers-key, is_some-kept}
use Rattle.host_arrays.proofs.array.renumber.Goals as goal
use Rattle.host_arrays.proofs.array.renumber.Goals.{in-Some+in-Some-get_mut, in-Some+in_default-get_mut, in_default}

pub loop-place-preserved : goal.loop-place-preserved
loop-place-preserved c =
    let before = held_in c.args.pairs.now.entries in
    let now = held_in c.loop-place.pairs.entries in
    let order = c.args.order.now in
    let place = c.loop-place.place in
    let here : get_or order place None ≡ c.index-order-place.result = sym (c.index-order-place.is ∙ get_or_default order place c.index-order-place.result None c.loop-place-test.true) in
    elim c.match-order-place.branch [
      | in-Some+in-Some-get_mut w ↦ rw w.pairs-is (
          let had : now w.in-Some.key ≡ Some w.in-Some-get_mut.held.now = sym w.get_mut.ensures.value ∙ ap option_copied_mut w.in-Some-get_mut.is in
          let written = w.get_mut.follows.holds (record { value = w.in-Some-get_mut.held.now.value; place = place }) in
          renumbers-key before now order place _ w.in-Some.key w.in-Some-get_mut.held.now c.requires.once (here ∙ w.in-Some.is) had (written.3 (ap is_some had)).0 c.loop-place.invariant)
      | in-Some+in_default-get_mut w ↦ (
          let none : now w.in-Some.key ≡ None = sym w.get_mut.ensures.value ∙ ap option_copied_mut w.in_default-get_mut.is in
          let same = c.loop-place.invariant.values w.in-Some.key in
          absurd (true≢false (sym (ap is_some same ∙ is_some-kept (before w.in-Some.key) ∙ c.requires.held w.in-Some.key place (here ∙ w.in-Some.is)) ∙ ap (λ o. is_some (kept_value o)) none)))
      | in_default w ↦ rw w.pairs-is (renumbers-hole before now order place (here ∙ w.in_default.is) c.loop-place.invariant)
    ]
