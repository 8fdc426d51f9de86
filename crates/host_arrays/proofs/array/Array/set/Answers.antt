use Rattle.std.proofs.Common.{◌≡◌, None, Some, is_some, ap, sym, ◌∙◌}
use Rattle.std.specs.Option.{option_copied_mut}
use Rattle.host_arrays.specs.declared.array.Held.{Held}
use Rattle.host_arrays.specs.Order.{held_in, place_in, kept_value}
use Rattle.host_arrays.proofs.PairLemmas.{pairs_in-write}
use Rattle.host_arrays.proofs.PlaceLemmas.{get_pair-placed, placed-write, stands_at}
use Rattle.host_arrays.proofs.array.Array.set.Goals as goal

pub invariant_of-self : goal.invariant_of-self
invariant_of-self c =
    let old = held_in c.self.inside.pairs.entries in
    let s = c.stands_in.ensures c.if-stands_in.true in
    let h : Held = record { value = c.args.value; place = s.held.place } in
    placed-write old (held_in c.write_at.new.pairs.entries) c.self.inside.order.items c.args.key.now h (c.write_at.ensures c.args.key.now s.held s.at) (ap place_in s.is) c.self.invariant

pub returns-then-stands_in-clause-set : goal.returns-then-stands_in-clause-set
returns-then-stands_in-clause-set c =
    let old = held_in c.self.inside.pairs.entries in
    let order = c.self.inside.order.items in
    let s = c.stands_in.ensures c.if-stands_in.true in
    let h : Held = record { value = c.args.value; place = s.held.place } in
    rw (← c.self.view_is)
    (pairs_in-write old (held_in c.write_at.new.pairs.entries) c.args.key.now h (c.write_at.ensures c.args.key.now s.held s.at) order s.held.place
    (stands_at old order c.args.key.now s.held s.is c.self.invariant))

pub invariant_of-self-in-Some : goal.invariant_of-self-in-Some
invariant_of-self-in-Some c =
    let old = held_in c.self.inside.pairs.entries in
    let h : Held = record { value = c.args.value; place = c.in-Some.held.now.place } in
    let had : old c.args.key.now ≡ Some c.in-Some.held.now = sym c.get_mut.ensures.value ∙ ap option_copied_mut c.in-Some.is in
    let written = c.get_mut.follows.holds h in
    placed-write old (held_in (c.get_mut.follows.lender h).entries) c.self.inside.order.items c.args.key.now h (written.3 (ap is_some had)).0 (ap place_in had) c.self.invariant

pub returns-in-Some-clause-set : goal.returns-in-Some-clause-set
returns-in-Some-clause-set c =
    let old = held_in c.self.inside.pairs.entries in
    let order = c.self.inside.order.items in
    let h : Held = record { value = c.args.value; place = c.in-Some.held.now.place } in
    let had : old c.args.key.now ≡ Some c.in-Some.held.now = sym c.get_mut.ensures.value ∙ ap option_copied_mut c.in-Some.is in
    let written = c.get_mut.follows.holds h in
    rw (← c.self.view_is)
    (pairs_in-write old (held_in (c.get_mut.follows.lender h).entries) c.args.key.now h (written.3 (ap is_some had)).0 order c.in-Some.held.now.place
    (stands_at old order c.args.key.now c.in-Some.held.now had c.self.invariant))

pub add-requires : goal.add-requires
add-requires c =
    let old = held_in c.self.inside.pairs.entries in
    let none : old c.args.key.now ≡ None = sym c.get_mut.ensures.value ∙ ap option_copied_mut c.in_default.is in
    rw (c.get_mut.follows.holds-at-none)
    (get_pair-placed old c.self.inside.order.items c.args.key.now c.self.invariant ∙ ap kept_value none)
