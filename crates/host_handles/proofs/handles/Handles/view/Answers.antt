use Rattle.std.proofs.Common.{ap, sym, ◌∙◌, ◌<ℤ◌, pos, subst, w32, ℤ, option_copied}
use Rattle.std.proofs.lemmas.Int.{to_z-of_z}
use Rattle.std.specs.FinMap as map
use Rattle.host_handles.proofs.TableLemmas.{get-table, get-table-below_zero}
use Rattle.host_handles.proofs.handles.Handles.view.Goals as goal

pub returns-in_err-slot_of : goal.returns-in_err-slot_of
returns-in_err-slot_of c =
    let below : c.args.handle <ℤ pos 0 = subst (λ (h : ℤ). h <ℤ pos 0) (to_z-of_z w32 _ c.ranges.handle) c.in_err-slot_of.ensures.none in
    ap option_copied c.from_residual.ensures ∙ sym (ap (λ m. map.get m c.args.handle) (sym c.self.view_is) ∙ get-table-below_zero c.self.inside.slab.slots c.args.handle below)

pub returns : goal.returns
returns c =
    let key = sym (to_z-of_z w32 _ c.ranges.handle) ∙ c.in_ok-slot_of.ensures.slot in
    rw (← c.self.view_is, key) (c.get.ensures ∙ sym (get-table c.self.inside.slab.slots c.in_ok-slot_of.field-0))
