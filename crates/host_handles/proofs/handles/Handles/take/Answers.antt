use Rattle.std.proofs.Common.{ap, sym, ◌∙◌, ◌<ℤ◌, pos, subst, w32, ℤ, None}
use Rattle.std.proofs.lemmas.Int.{to_z-of_z}
use Rattle.std.specs.FinMap as map
use Rattle.host_handles.proofs.TableLemmas.{get-table, get-table-below_zero, table-remove, table-remove-below_zero, writes_slot}
use Rattle.host_handles.proofs.handles.Handles.take.Goals as goal

pub returns-in_err-slot_of-clause-value : goal.returns-in_err-slot_of-clause-value
returns-in_err-slot_of-clause-value c =
    let below : c.args.handle <ℤ pos 0 = subst (λ (h : ℤ). h <ℤ pos 0) (to_z-of_z w32 _ c.ranges.handle) c.in_err-slot_of.ensures.none in
    c.from_residual.ensures ∙ sym (ap (λ m. map.get m c.args.handle) (sym c.self.view_is) ∙ get-table-below_zero c.self.inside.slab.slots c.args.handle below)

pub returns-in_err-slot_of-clause-rest : goal.returns-in_err-slot_of-clause-rest
returns-in_err-slot_of-clause-rest c =
    let below : c.args.handle <ℤ pos 0 = subst (λ (h : ℤ). h <ℤ pos 0) (to_z-of_z w32 _ c.ranges.handle) c.in_err-slot_of.ensures.none in
    table-remove-below_zero c.self.inside.slab.slots c.args.handle below ∙ ap (λ m. map.remove m c.args.handle) c.self.view_is

pub returns-clause-value : goal.returns-clause-value
returns-clause-value c =
    let key = sym (to_z-of_z w32 _ c.ranges.handle) ∙ c.in_ok-slot_of.ensures.slot in
    rw (← c.self.view_is, key) (c.try_remove.ensures.value ∙ sym (get-table c.self.inside.slab.slots c.in_ok-slot_of.field-0))

pub returns-clause-rest : goal.returns-clause-rest
returns-clause-rest c =
    let key = sym (to_z-of_z w32 _ c.ranges.handle) ∙ c.in_ok-slot_of.ensures.slot in
    rw (← c.self.view_is, key)
    (table-remove c.in_ok-slot_of.field-0 c.self.inside.slab.slots c.try_remove.new.self.slots (writes_slot c.self.inside.slab c.try_remove.new.self c.in_ok-slot_of.field-0 None c.try_remove.ensures.updates))
