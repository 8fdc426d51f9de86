use Rattle.std.proofs.Common.{ℕ, List, ◌∷◌, ◌++◌, ap, sym, arith}
use Rattle.std.proofs.lemmas.List.{drop_all}
use Rattle.awk_grammar.specs.View.{view, views}
use Rattle.awk_grammar.specs.declared.tree.Expr.{Expr}
use Rattle.awk_grammar.proofs.Views.{count_views, element_is, call_is, apply_is, in_list_is}
use Rattle.script_check.specs.Uses.{does, uses, all_uses, operand_uses}
use Rattle.script_check.specs.declared.uses.Deed.TheVariants.{Calls}
use Rattle.script_check.specs.declared.uses.Way.TheVariants.{Asked, Given}
use Rattle.script_check.specs.declared.uses.Way.{Way}
use Rattle.script_check.specs.declared.uses.Deed.{Deed}
use Rattle.latched.proofs.LatchedLemmas.{adding_all, adding_first, adding_next, adds_as, adds_both}
use Rattle.script_check.specs.View.{view_use, view_place}
use Rattle.awk_resolve.proofs.Names.{drop_at}
use Rattle.script_check.proofs.walk.+walk.Goals as goal

pub push_expr-returns-in-Element : goal.push_expr-returns-in-Element
push_expr-returns-in-Element t c =
    adds_as view_use _ _ (ap (uses (view_place c.args.place) c.args.way) (element_is c.args.e.now c.in-Element.name c.in-Element.subscripts _ _ c.in-Element.is c.deref-in-Element.ensures.value c.deref-in-Element-2.ensures.value))
    (adds_as view_use _ _ (ap (λ (d : Deed). does (view_place c.args.place) d c.deref-in-Element.result.now ∷ all_uses (view_place c.args.place) Asked (views c.deref-in-Element-2.result.now)) c.element_deed.ensures) c.push_element.ensures)

pub push_expr-returns-in-Call : goal.push_expr-returns-in-Call
push_expr-returns-in-Call t c =
    adds_as view_use _ _ (ap (uses (view_place c.args.place) c.args.way) (call_is c.args.e.now c.in-Call.name c.in-Call.arguments _ _ c.in-Call.is c.deref-in-Call.ensures.value c.deref-in-Call-2.ensures.value)) c.push_call.ensures

pub push_expr-returns-in-Apply : goal.push_expr-returns-in-Apply
push_expr-returns-in-Apply t c =
    adds_as view_use _ _ (ap (uses (view_place c.args.place) c.args.way) (apply_is c.args.e.now c.in-Apply.function c.in-Apply.arguments _ c.in-Apply.is c.deref-in-Apply.ensures.value)) c.push_operands.ensures

pub push_expr-returns-in-InList : goal.push_expr-returns-in-InList
push_expr-returns-in-InList t c =
    adds_as view_use _ _ (ap (uses (view_place c.args.place) c.args.way) (in_list_is c.args.e.now c.in-InList.first c.in-InList.others c.in-InList.array _ _ _ c.in-InList.is c.deref-in-InList.ensures c.deref-in-InList-2.ensures.value
    c.deref-in-InList-3.ensures.value)) (adds_both view_use c.push_expr-in-InList.ensures c.push_others.ensures)

pub push_element-returns : goal.push_element-returns
push_element-returns t c = adds_both view_use c.put.ensures c.push_all.ensures

pub push_call-returns : goal.push_call-returns
push_call-returns t c =
    let place = view_place c.args.place in
    let f = c.args.name.now in
    let ts = views c.args.arguments.now in
    adds_as view_use _ _ (ap (λ (n : ℕ). does place (Calls n) f ∷ all_uses place Given ts) (sym (count_views c.args.arguments.now)))
    (adds_both view_use c.put.ensures c.push_all.ensures)

pub push_others-returns : goal.push_others-returns
push_others-returns t c = adds_both view_use c.push_all.ensures c.put.ensures

pub push_all-loop-e-init : goal.push_all-loop-e-init
push_all-loop-e-init t c = adding_first view_use c.args.out.now _

pub push_all-loop-e-preserved : goal.push_all-loop-e-preserved
push_all-loop-e-preserved t c =
    adding_next view_use _ (ap (λ (us : List Expr). all_uses (view_place c.args.place) c.args.way (views us)) (drop_at c.args.es.now c.loop-e.e-index c.e-item.result c.loop-e-test.true c.e-item.is)) c.loop-e.invariant c.push_expr.ensures

pub push_all-returns : goal.push_all-returns
push_all-returns t c =
    adding_all view_use _ (ap (λ (us : List Expr). all_uses (view_place c.args.place) c.args.way (views us)) (drop_all c.loop-e.e-index c.args.es.now (omega arith))) c.loop-e.invariant

pub push_operands-loop-i-init : goal.push_operands-loop-i-init
push_operands-loop-i-init t c = adding_first view_use c.args.out.now _

pub push_operands-loop-i-preserved : goal.push_operands-loop-i-preserved
push_operands-loop-i-preserved t c =
    adding_next view_use _ (ap (λ (us : List Expr). operand_uses (view_place c.args.place) c.args.function c.loop-i.i (views us))
    (drop_at c.args.arguments.now c.loop-i.i c.index-arguments-i.result (omega arith) c.index-arguments-i.is)) c.loop-i.invariant
    (adds_as view_use _ _ (ap (λ (w : Way). uses (view_place c.args.place) w (view c.index-arguments-i.result)) c.operand_way.ensures) c.push_expr.ensures)

pub push_operands-returns : goal.push_operands-returns
push_operands-returns t c =
    adding_all view_use _ (ap (λ (us : List Expr). operand_uses (view_place c.args.place) c.args.function c.loop-i.i (views us)) (drop_all c.loop-i.i c.args.arguments.now (omega arith))) c.loop-i.invariant
