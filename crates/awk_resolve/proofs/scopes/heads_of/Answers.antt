use Rattle.std.proofs.Common.{◌≡◌, ◌+◌, List, ◌∷◌, drop, ap, sym, subst, arith, rules}
use Rattle.std.proofs.lemmas.List.{drop_all}
use Rattle.awk_grammar.specs.declared.tree.Item.{Item}
use Rattle.awk_grammar.specs.ViewStmt.{view_items, view_names}
use Rattle.awk_grammar.specs.Kinds.{Head, heads}
use Rattle.awk_resolve.specs.ViewNames.{view_head}
use Rattle.awk_resolve.proofs.Names.{drop_at}
use Rattle.awk_resolve.proofs.Listed.{Lists, all_listed, all_placed, lists_first, lists_next}
use Rattle.awk_resolve.proofs.scopes.heads_of.Goals as goal
use Rattle.awk_resolve.proofs.scopes.heads_of.Goals.{in-Function, in_default}

pub loop-item-init : goal.loop-item-init
loop-item-init c = lists_first view_head (λ (h : Head). h.name) c.new-all.result _ c.new-all.ensures.items c.new-all.ensures.places

pub loop-item-preserved : goal.loop-item-preserved
loop-item-preserved c =
    let i = c.loop-item.item-index in
    let items = c.args.script.now.items.items in
    let x = c.item-item.result in
    let rest = drop (i + 1) items in
    let at = subst (λ (us : List Item). drop i us ≡ x ∷ drop (i + 1) us) c.deref-item-items.ensures.value (drop_at c.deref-item-items.result.now i x c.loop-item-test.true c.item-item.is) in
    let before = subst (λ (us : List Item). Lists view_head (λ (h : Head). h.name) c.loop-item.all (heads (view_items us)) (heads (view_items items))) at c.loop-item.invariant in
    elim c.match-item.branch [
      | in-Function w ↦
          let form : Head = record { name = w.in-Function.name.items; parameters = view_names w.in-Function.parameters.items } in
          let here : heads (view_items (x ∷ rest)) ≡ form ∷ heads (view_items rest) = ap (λ (u : Item). heads (view_items (u ∷ rest))) w.in-Function.is in
          rw w.all-is (lists_next view_head (λ (h : Head). h.name) w.deref.result.now _ form (heads (view_items rest)) w.put.ensures
          (λ j. record { name = w.deref-in-Function.ensures.value j; parameters = view_names (w.deref-in-Function-2.ensures.value j) }) (sym w.deref.ensures.value)
          (subst (λ (hs : List Head). Lists view_head (λ (h : Head). h.name) c.loop-item.all hs (heads (view_items items))) here before))
      | in_default w ↦
          let none : heads (view_items (x ∷ rest)) ≡ heads (view_items rest) = search rules in
          rw w.all-is (subst (λ (hs : List Head). Lists view_head (λ (h : Head). h.name) c.loop-item.all hs (heads (view_items items))) none before)
    ]

pub returns-clause-heads : goal.returns-clause-heads
returns-clause-heads c =
    let items = c.args.script.now.items.items in
    all_listed view_head (λ (h : Head). h.name) c.loop-item.all c.all.result (heads (view_items items)) c.all.ensures
    (subst (λ (us : List Item). Lists view_head (λ (h : Head). h.name) c.loop-item.all (heads (view_items us)) (heads (view_items items))) (drop_all c.loop-item.item-index items (omega arith)) c.loop-item.invariant)

pub returns-clause-places : goal.returns-clause-places
returns-clause-places c =
    let items = c.args.script.now.items.items in
    all_placed view_head (λ (h : Head). h.name) c.loop-item.all c.all.result (heads (view_items items)) c.all.ensures
    (subst (λ (us : List Item). Lists view_head (λ (h : Head). h.name) c.loop-item.all (heads (view_items us)) (heads (view_items items))) (drop_all c.loop-item.item-index items (omega arith)) c.loop-item.invariant)
