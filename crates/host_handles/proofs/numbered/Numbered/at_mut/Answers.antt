use Rattle.std.proofs.Common.{◌≤ℤ◌, ℤ, pos, w32, refl, ap, sym, subst, ◌∙◌}
use Rattle.std.proofs.lemmas.Int.{to_z-of_z}
use Rattle.std.specs.FinMap as map
use Rattle.slab.specs.Slab.{with_value}
use Rattle.slab.proofs.SlabLemmas.{Updates-with_value}
use Rattle.host_handles.proofs.TableLemmas.{get-table, table-insert, writes_slot}
use Rattle.host_handles.proofs.NumberLemmas.{taken_from_zero, taken_slot}
use Rattle.host_handles.proofs.numbered.Numbered.at_mut.Goals as goal

pub slot_of-requires : goal.slot_of-requires
slot_of-requires g c =
    subst (λ (h : ℤ). pos 0 ≤ℤ h) (sym (to_z-of_z w32 _ c.ranges.number))
    (taken_from_zero c.self.inside.slab.slots c.args.number (ap (λ m. map.contains_key m c.args.number) c.self.view_is ∙ c.requires))

pub index_mut-requires : goal.index_mut-requires
index_mut-requires g c =
    taken_slot c.self.inside.slab.slots c.args.number c.slot_of.result (sym (to_z-of_z w32 _ c.ranges.number) ∙ c.slot_of.ensures)
    (ap (λ m. map.contains_key m c.args.number) c.self.view_is ∙ c.requires)

pub returns : goal.returns
returns g c =
    let slab = c.self.inside.slab in
    let slot = c.slot_of.result in
    let key = sym (to_z-of_z w32 _ c.ranges.number) ∙ c.slot_of.ensures in
    let taken = taken_slot slab.slots c.args.number slot key (ap (λ m. map.contains_key m c.args.number) c.self.view_is ∙ c.requires) in (
      (
        refl,
        λ thing. rw (← c.self.view_is, key)
            (table-insert slot thing slab.slots (with_value slab slot thing).slots (writes_slot slab (with_value slab slot thing) slot _ (Updates-with_value slab slot thing taken))),
      ),
      record { writes_back = tt; value = rw (← c.self.view_is, key) (get-table slab.slots slot ∙ c.index_mut.ensures.value) },
    )
