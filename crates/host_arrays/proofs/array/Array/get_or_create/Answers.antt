use Rattle.std.proofs.Common.{◌≡◌, Some, ap, sym, ◌∙◌}
use Rattle.awk_values.specs.declared.value.Value.TheVariants.{Uninit}
use Rattle.host_arrays.specs.Pairs.{get_pair, created_by, value_or_uninit}
use Rattle.host_arrays.specs.Order.{held_in, kept_value}
use Rattle.host_arrays.proofs.PairLemmas.{set_pair-new}
use Rattle.host_arrays.proofs.PlaceLemmas.{get_pair-placed}
use Rattle.host_arrays.proofs.array.Array.get_or_create.Goals as goal

pub returns-in-Some-clause-value : goal.returns-in-Some-clause-value
returns-in-Some-clause-value c =
    let old = held_in c.self.inside.pairs.entries in
    let had : get_pair c.args.key.now c.args.self.now ≡ Some c.in-Some.held.now.value = ap (get_pair c.args.key.now) (sym c.self.view_is) ∙ get_pair-placed old c.self.inside.order.items c.args.key.now c.self.invariant ∙ ap kept_value c.in-Some.ensures in
    c.in_ok-copy.ensures ∙ sym (ap value_or_uninit had)

pub returns-in-Some-clause-created : goal.returns-in-Some-clause-created
returns-in-Some-clause-created c =
    let old = held_in c.self.inside.pairs.entries in
    let had : get_pair c.args.key.now c.args.self.now ≡ Some c.in-Some.held.now.value = ap (get_pair c.args.key.now) (sym c.self.view_is) ∙ get_pair-placed old c.self.inside.order.items c.args.key.now c.self.invariant ∙ ap kept_value c.in-Some.ensures in
    sym (ap (λ slot. created_by slot c.args.key.now c.args.self.now) had)

pub returns-in-Some-get_full-clause-value : goal.returns-in-Some-get_full-clause-value
returns-in-Some-get_full-clause-value c =
    let old = held_in c.self.inside.pairs.entries in
    let had : get_pair c.args.key.now c.args.self.now ≡ Some c.in-Some-get_full.held.now.value = ap (get_pair c.args.key.now) (sym c.self.view_is) ∙ get_pair-placed old c.self.inside.order.items c.args.key.now c.self.invariant ∙ ap kept_value (sym c.in-Some-get_full.ensures.value) in
    c.in_ok-copy-2.ensures ∙ sym (ap value_or_uninit had)

pub returns-in-Some-get_full-clause-created : goal.returns-in-Some-get_full-clause-created
returns-in-Some-get_full-clause-created c =
    let old = held_in c.self.inside.pairs.entries in
    let had : get_pair c.args.key.now c.args.self.now ≡ Some c.in-Some-get_full.held.now.value = ap (get_pair c.args.key.now) (sym c.self.view_is) ∙ get_pair-placed old c.self.inside.order.items c.args.key.now c.self.invariant ∙ ap kept_value (sym c.in-Some-get_full.ensures.value) in
    c.self.view_is ∙ sym (ap (λ slot. created_by slot c.args.key.now c.args.self.now) had)

pub add-requires : goal.add-requires
add-requires c =
    ap (get_pair c.args.key.now) (sym c.self.view_is)
    ∙ get_pair-placed (held_in c.self.inside.pairs.entries) c.self.inside.order.items c.args.key.now c.self.invariant ∙ ap kept_value (sym c.in_default-get_full.ensures.value)

pub returns-clause-value : goal.returns-clause-value
returns-clause-value c =
    let none = ap (get_pair c.args.key.now) (sym c.self.view_is) ∙ get_pair-placed (held_in c.self.inside.pairs.entries) c.self.inside.order.items c.args.key.now c.self.invariant ∙ ap kept_value (sym c.in_default-get_full.ensures.value) in
    sym (ap value_or_uninit none)

pub returns-clause-created : goal.returns-clause-created
returns-clause-created c =
    let none = ap (get_pair c.args.key.now) (sym c.self.view_is) ∙ get_pair-placed (held_in c.self.inside.pairs.entries) c.self.inside.order.items c.args.key.now c.self.invariant ∙ ap kept_value (sym c.in_default-get_full.ensures.value) in
    c.self-2.view_is ∙ c.in-Ok.ensures.added ∙ set_pair-new c.args.key.now Uninit c.args.self.now none ∙ sym (ap (λ slot. created_by slot c.args.key.now c.args.self.now) none)
