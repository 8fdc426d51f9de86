use Rattle.std.proofs.Common.{◌≡◌, None, is_some, filter, get_or, ap, ◌∙◌, rules}
use Rattle.std.proofs.lemmas.Fn.{filter_same}
use Rattle.host_arrays.specs.Order.{Order, held_in, pairs_in}
use Rattle.host_arrays.proofs.PairLemmas.{pairs_in-agree, pairs_in-filter}
use Rattle.host_arrays.proofs.PlaceLemmas.{once_placed, once_filter, placed-sweep, swept_held, value_from_kept}
use Rattle.host_arrays.proofs.array.Array.sweep.Goals as goal

pub renumber-requires-clause-once : goal.renumber-requires-clause-once
renumber-requires-clause-once c =
    let swept : c.retain.new.self.items ≡ filter is_some c.self.inside.order.items = filter_same _ _ _ (λ x b f k. search rules) _ _ c.retain.ensures.filtered in
    rw (c.deref.ensures.value, swept) (once_filter c.self.inside.order.items (once_placed (held_in c.self.inside.pairs.entries) c.self.inside.order.items c.self.invariant))

pub renumber-requires-clause-held : goal.renumber-requires-clause-held
renumber-requires-clause-held c =
    let swept : c.retain.new.self.items ≡ filter is_some c.self.inside.order.items = filter_same _ _ _ (λ x b f k. search rules) _ _ c.retain.ensures.filtered in
    rw (c.deref.ensures.value, swept) (swept_held (held_in c.self.inside.pairs.entries) c.self.inside.order.items c.self.invariant)

pub invariant_of-self : goal.invariant_of-self
invariant_of-self c =
    let swept : c.retain.new.self.items ≡ filter is_some c.self.inside.order.items = filter_same _ _ _ (λ x b f k. search rules) _ _ c.retain.ensures.filtered in
    rw swept
    (placed-sweep (held_in c.self.inside.pairs.entries) (held_in c.renumber.new.pairs.entries) c.self.inside.order.items c.self.invariant c.renumber.ensures.values
    (λ k i at. c.renumber.ensures.places k i (ap (λ (o : Order). get_or o i None) (c.deref.ensures.value ∙ swept) ∙ at)))

pub returns : goal.returns
returns c =
    let old = held_in c.self.inside.pairs.entries in
    let new = held_in c.renumber.new.pairs.entries in
    let order = c.self.inside.order.items in
    let swept : c.retain.new.self.items ≡ filter is_some order = filter_same _ _ _ (λ x b f k. search rules) _ _ c.retain.ensures.filtered in
    ap (pairs_in new) swept ∙ pairs_in-filter new order
    ∙ pairs_in-agree old new order (λ k i at. value_from_kept old new k (c.renumber.ensures.values k))
    ∙ c.self.view_is
