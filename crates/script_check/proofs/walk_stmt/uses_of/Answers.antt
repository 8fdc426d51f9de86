use Rattle.std.proofs.Common.{◌≡◌, ◌+◌, List, ◌∷◌, map, drop, ap, subst, arith}
use Rattle.std.proofs.lemmas.List.{drop_all}
use Rattle.awk_grammar.specs.declared.tree.Item.{Item}
use Rattle.awk_grammar.specs.ViewStmt.{view_items}
use Rattle.script_check.specs.Uses.{script_uses}
use Rattle.latched.proofs.LatchedLemmas.{leads_all, leads_first, leads_next}
use Rattle.script_check.specs.View.{view_use}
use Rattle.awk_resolve.proofs.Names.{drop_at}
use Rattle.script_check.proofs.walk_stmt.uses_of.Goals as goal

pub loop-item-init : goal.loop-item-init
loop-item-init c = leads_first view_use c.new-out.result _ (ap (map view_use) c.new-out.ensures.items)

pub loop-item-preserved : goal.loop-item-preserved
loop-item-preserved c =
    let i = c.loop-item.item-index in
    let x = c.item-item.result in
    let at = subst (λ (us : List Item). drop i us ≡ x ∷ drop (i + 1) us) c.deref-item-items.ensures.value (drop_at c.deref-item-items.result.now i x c.loop-item-test.true c.item-item.is) in
    leads_next view_use _ (ap (λ (us : List Item). script_uses (view_items us)) at) c.loop-item.invariant c.push_item.ensures

pub returns : goal.returns
returns c =
    leads_all view_use _ c.into_vec.result (ap (λ (us : List Item). script_uses (view_items us)) (drop_all c.loop-item.item-index c.args.script.now.items.items (omega arith))) c.loop-item.invariant c.into_vec.ensures.all
