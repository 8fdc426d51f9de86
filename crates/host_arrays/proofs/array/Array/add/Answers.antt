use Rattle.std.proofs.Common.{◌≡◌, None, ap, sym, ◌∙◌}
use Rattle.host_arrays.specs.Pairs.{get_pair}
use Rattle.host_arrays.specs.declared.array.Held.{Held}
use Rattle.host_arrays.specs.Order.{held_in, pairs_in}
use Rattle.host_arrays.proofs.PairLemmas.{pairs_in-add, set_pair-new}
use Rattle.host_arrays.proofs.PlaceLemmas.{apart_from_none, none_held, placed-add}
use Rattle.host_arrays.proofs.array.Array.add.Goals as goal

pub invariant_of-self-in-Ok-insert : goal.invariant_of-self-in-Ok-insert
invariant_of-self-in-Ok-insert c =
    let old = held_in c.self.inside.pairs.entries in
    let order = c.self.inside.order.items in
    let own = c.in-Ok.own in
    let absent = ap (get_pair c.args.key.now) c.self.view_is ∙ c.requires in
    let none : old own ≡ None = ap old c.in-Ok.ensures ∙ none_held old order c.args.key.now c.self.invariant absent in
    let h : Held = record { value = c.args.value; place = c.len-place.result } in
    rw (c.in-Ok-push.ensures.items, c.in-Ok-clone.ensures.cases)
    (placed-add old (held_in c.insert.new.self.entries) order own h c.in-Ok-insert.ensures.updates.0 (c.len-place.ensures ∙ c.self.inside.order.ok.0) none c.self.invariant)

pub returns-in-Ok-insert-clause-added : goal.returns-in-Ok-insert-clause-added
returns-in-Ok-insert-clause-added c =
    let old = held_in c.self.inside.pairs.entries in
    let order = c.self.inside.order.items in
    let own = c.in-Ok.own in
    let absent : get_pair own (pairs_in old order) ≡ None = ap (λ k. get_pair k (pairs_in old order)) c.in-Ok.ensures ∙ ap (get_pair c.args.key.now) c.self.view_is ∙ c.requires in
    let none = none_held old order own c.self.invariant absent in
    let h : Held = record { value = c.args.value; place = c.len-place.result } in
    rw (c.in-Ok-push.ensures.items, c.in-Ok-clone.ensures.cases, ← c.self.view_is, ← c.in-Ok.ensures)
    (pairs_in-add old (held_in c.insert.new.self.entries) own h c.in-Ok-insert.ensures.updates.0 order (apart_from_none old order own none c.self.invariant)
    ∙ sym (set_pair-new own c.args.value (pairs_in old order) absent))
