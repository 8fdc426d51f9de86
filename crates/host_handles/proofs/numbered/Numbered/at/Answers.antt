use Rattle.std.proofs.Common.{◌≤ℤ◌, ℤ, pos, w32, ap, sym, subst, ◌∙◌}
use Rattle.std.proofs.lemmas.Int.{to_z-of_z}
use Rattle.std.specs.FinMap as map
use Rattle.host_handles.proofs.TableLemmas.{get-table}
use Rattle.host_handles.proofs.NumberLemmas.{taken_from_zero, taken_slot}
use Rattle.host_handles.proofs.numbered.Numbered.at.Goals as goal

pub slot_of-requires : goal.slot_of-requires
slot_of-requires g c =
    subst (λ (h : ℤ). pos 0 ≤ℤ h) (sym (to_z-of_z w32 _ c.ranges.number))
    (taken_from_zero c.self.inside.slab.slots c.args.number (ap (λ m. map.contains_key m c.args.number) c.self.view_is ∙ c.requires))

pub index-requires : goal.index-requires
index-requires g c =
    taken_slot c.self.inside.slab.slots c.args.number c.slot_of.result (sym (to_z-of_z w32 _ c.ranges.number) ∙ c.slot_of.ensures)
    (ap (λ m. map.contains_key m c.args.number) c.self.view_is ∙ c.requires)

pub returns : goal.returns
returns g c =
    let key = sym (to_z-of_z w32 _ c.ranges.number) ∙ c.slot_of.ensures in
    rw (← c.self.view_is, key) (get-table c.self.inside.slab.slots c.slot_of.result ∙ c.index.ensures)
