use Rattle.std.proofs.Common.{◌≤ℤ◌, ℤ, pos, w32, Some, ap, sym, subst, ◌∙◌}
use Rattle.std.proofs.lemmas.Int.{to_z-of_z}
use Rattle.std.specs.FinMap as map
use Rattle.slab.specs.Slab.{with_value}
use Rattle.slab.proofs.SlabLemmas.{Updates-with_value}
use Rattle.host_handles.proofs.TableLemmas.{get-table, table-insert, writes_slot}
use Rattle.host_handles.proofs.NumberLemmas.{taken_from_zero, taken_slot}
use Rattle.host_handles.proofs.handles.Handles.replace.Goals as goal

pub slot_of-requires : goal.slot_of-requires
slot_of-requires c =
    subst (λ (h : ℤ). pos 0 ≤ℤ h) (sym (to_z-of_z w32 _ c.ranges.handle))
    (taken_from_zero c.self.inside.slab.slots c.args.handle (ap (λ m. map.contains_key m c.args.handle) c.self.view_is ∙ c.requires))

pub index_mut-requires : goal.index_mut-requires
index_mut-requires c =
    taken_slot c.self.inside.slab.slots c.args.handle c.slot_of.result (sym (to_z-of_z w32 _ c.ranges.handle) ∙ c.slot_of.ensures)
    (ap (λ m. map.contains_key m c.args.handle) c.self.view_is ∙ c.requires)

pub returns-clause-value : goal.returns-clause-value
returns-clause-value c =
    let key = sym (to_z-of_z w32 _ c.ranges.handle) ∙ c.slot_of.ensures in
    rw (← c.self.view_is, key) (get-table c.self.inside.slab.slots c.slot_of.result ∙ c.index_mut.ensures.value ∙ ap Some (sym c.replace.ensures.value))

pub returns-clause-replaced : goal.returns-clause-replaced
returns-clause-replaced c =
    let slab = c.self.inside.slab in
    let slot = c.slot_of.result in
    let key = sym (to_z-of_z w32 _ c.ranges.handle) ∙ c.slot_of.ensures in
    let taken = taken_slot slab.slots c.args.handle slot key (ap (λ m. map.contains_key m c.args.handle) c.self.view_is ∙ c.requires) in
    rw (← c.self.view_is, key, c.replace.ensures.after)
    (table-insert slot _ slab.slots (with_value slab slot c.args.value).slots (writes_slot slab (with_value slab slot c.args.value) slot _ (Updates-with_value slab slot c.args.value taken)))
