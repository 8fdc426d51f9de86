use Rattle.std.proofs.Common.{◌+◌, List, ◌++◌, drop, ap, sym, ◌∙◌, arith}
use Rattle.std.proofs.lemmas.List.{drop_all}
use Rattle.awk_grammar.specs.ViewStmt.{view_items}
use Rattle.awk_grammar.specs.declared.tree.Item.{Item}
use Rattle.awk_resolve.proofs.Names.{drop_at}
use Rattle.sem_scripts.specs.Kinds.{bodies}
use Rattle.mid_code.specs.ViewNames.{view_bodies}
use Rattle.mid_code.proofs.BodyParts.{all_pushed}
use Rattle.mid_code.proofs.bodies.bodies.Goals as goal

pub loop-item-preserved : goal.loop-item-preserved
loop-item-preserved c =
    let items = c.as_slice-items.result.now in
    let i = c.loop-item.item-index in
    let found = c.loop-item.found.items in
    c.in_ok-push_body.ensures (view_items (drop (i + 1) items))
    ∙ sym (ap (λ (xs : List Item). view_bodies found ++ bodies (view_items xs)) (drop_at items i c.item-item.result c.loop-item-test.true c.item-item.is))
    ∙ c.loop-item.invariant

pub returns : goal.returns
returns c =
    let items = c.as_slice-items.result.now in
    all_pushed _ _ _ (ap (λ (xs : List Item). bodies (view_items xs)) (drop_all c.loop-item.item-index items (omega arith))) c.loop-item.invariant
    ∙ ap (λ (xs : List Item). bodies (view_items xs)) c.as_slice-items.ensures.value
