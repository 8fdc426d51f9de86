use Rattle.std.proofs.Common.{◌<ℤ◌, ℤ, pos, w32, arith, is_some, ap, sym, subst, ◌∙◌}
use Rattle.std.proofs.lemmas.Int.{to_z-of_z}
use Rattle.std.specs.FinMap as map
use Rattle.host_handles.proofs.TableLemmas.{get-table, get-table-below_zero}
use Rattle.host_handles.proofs.NumberLemmas.{shown_some}
use Rattle.host_handles.proofs.numbered.Numbered.contains.Goals as goal

pub returns-then-number-lt0 : goal.returns-then-number-lt0
returns-then-number-lt0 g c =
    let below : c.args.number <ℤ pos 0 = subst (λ (h : ℤ). h <ℤ pos 0) (to_z-of_z w32 _ c.ranges.number) (grind (arith, c.if-number-lt0.true)) in
    sym (ap (λ m. map.contains_key m c.args.number) (sym c.self.view_is) ∙ ap is_some (get-table-below_zero c.self.inside.slab.slots c.args.number below))

pub returns : goal.returns
returns g c =
    let key = sym (to_z-of_z w32 _ c.ranges.number) ∙ c.slot_of.ensures in
    rw (← c.self.view_is, key) (c.is_some.ensures ∙ shown_some c.get.result ∙ ap is_some c.get.ensures ∙ sym (ap is_some (get-table c.self.inside.slab.slots c.slot_of.result)))
