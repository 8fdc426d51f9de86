use Rattle.std.proofs.Common.{◌≡◌, ◌<◌, ◌∙◌, None, ap, sym, subst}
use Rattle.host_arrays.specs.Order.{held_in, kept_value, pairs_in}
use Rattle.host_arrays.proofs.PairLemmas.{pairs_in-hole, delete_pair-absent}
use Rattle.host_arrays.proofs.PlaceLemmas.{get_pair-placed, placed-hole, stands_at, place_within}
use Rattle.host_arrays.proofs.array.Array.delete.Goals as goal

pub index_mut-requires : goal.index_mut-requires
index_mut-requires c =
    subst (λ n. c.in-Some.held.place < n) (sym c.self.inside.order.ok.0)
    (place_within c.self.inside.order.items c.args.key.now c.in-Some.held.place
    (stands_at (held_in c.self.inside.pairs.entries) c.self.inside.order.items c.args.key.now c.in-Some.held (sym c.in-Some.ensures.value) c.self.invariant).0)

pub invariant_of-self : goal.invariant_of-self
invariant_of-self c =
    let old = held_in c.self.inside.pairs.entries in
    placed-hole old (held_in c.swap_remove.new.self.entries) c.self.inside.order.items c.args.key.now c.in-Some.held.place c.in-Some.ensures.updates.0
    (stands_at old c.self.inside.order.items c.args.key.now c.in-Some.held (sym c.in-Some.ensures.value) c.self.invariant) c.self.invariant

pub returns-then-len : goal.returns-then-len
returns-then-len c =
    let old = held_in c.self.inside.pairs.entries in
    rw (c.sweep.ensures, ← c.self.view_is)
    (pairs_in-hole old (held_in c.swap_remove.new.self.entries) c.args.key.now c.in-Some.ensures.updates.0 c.self.inside.order.items c.in-Some.held.place
    (stands_at old c.self.inside.order.items c.args.key.now c.in-Some.held (sym c.in-Some.ensures.value) c.self.invariant))

pub invariant_of-self-else-len : goal.invariant_of-self-else-len
invariant_of-self-else-len c =
    let old = held_in c.self.inside.pairs.entries in
    placed-hole old (held_in c.swap_remove.new.self.entries) c.self.inside.order.items c.args.key.now c.in-Some.held.place c.in-Some.ensures.updates.0
    (stands_at old c.self.inside.order.items c.args.key.now c.in-Some.held (sym c.in-Some.ensures.value) c.self.invariant) c.self.invariant

pub returns-in-Some : goal.returns-in-Some
returns-in-Some c =
    let old = held_in c.self.inside.pairs.entries in
    rw (← c.self.view_is)
    (pairs_in-hole old (held_in c.swap_remove.new.self.entries) c.args.key.now c.in-Some.ensures.updates.0 c.self.inside.order.items c.in-Some.held.place
    (stands_at old c.self.inside.order.items c.args.key.now c.in-Some.held (sym c.in-Some.ensures.value) c.self.invariant))

pub returns : goal.returns
returns c =
    let old = held_in c.self.inside.pairs.entries in
    let none : old c.args.key.now ≡ None = sym c.in_default.ensures.value in
    rw (← c.self.view_is)
    (ap (λ es. pairs_in (held_in es) c.self.inside.order.items) c.in_default.ensures.unchanged
    ∙ sym (delete_pair-absent c.args.key.now (pairs_in old c.self.inside.order.items) (get_pair-placed old c.self.inside.order.items c.args.key.now c.self.invariant ∙ ap kept_value none)))
