use Rattle.std.proofs.Common.{List, ap, arith}
use Rattle.std.proofs.lemmas.List.{drop_all}
use Rattle.awk_grammar.specs.declared.tree.Expr.{Expr}
use Rattle.awk_grammar.specs.View.{views as trees}
use Rattle.awk_resolve.proofs.Names.{drop_at}
use Rattle.mid_program.specs.Texts.{all_texts}
use Rattle.mid_code.proofs.TextTables.{adds_as, adds_both, apply_texts, call_texts, element_texts, leads_all, leads_first, leads_next, list_texts}
use Rattle.mid_code.proofs.texts.+texts.Goals as goal

pub put_expr-returns-in-Element : goal.put_expr-returns-in-Element
put_expr-returns-in-Element t c = adds_as _ _ (element_texts c.args.e.now c.in-Element.es _ c.in-Element.is c.deref-in-Element.ensures.value) c.put_all.ensures

pub put_expr-returns-in-Call : goal.put_expr-returns-in-Call
put_expr-returns-in-Call t c = adds_as _ _ (call_texts c.args.e.now c.in-Call.es _ c.in-Call.is c.deref-in-Call.ensures.value) c.put_all-in-Call.ensures

pub put_expr-returns-in-Apply : goal.put_expr-returns-in-Apply
put_expr-returns-in-Apply t c = adds_as _ _ (apply_texts c.args.e.now c.in-Apply.es _ c.in-Apply.is c.deref-in-Apply.ensures.value) c.put_all-in-Apply.ensures

pub put_expr-returns-in-InList : goal.put_expr-returns-in-InList
put_expr-returns-in-InList t c =
    adds_as _ _ (list_texts c.args.e.now c.in-InList.e c.in-InList.es c.deref-in-InList.result.now c.deref-in-InList-2.result.now c.in-InList.is c.deref-in-InList.ensures c.deref-in-InList-2.ensures.value)
    (adds_both c.put_expr.ensures c.put_all-in-InList.ensures)

pub put_all-loop-e-init : goal.put_all-loop-e-init
put_all-loop-e-init t c = leads_first c.args.texts.now _

pub put_all-loop-e-preserved : goal.put_all-loop-e-preserved
unfolding all_texts
put_all-loop-e-preserved t c =
    leads_next _ (ap (λ (us : List Expr). all_texts (trees us)) (drop_at c.args.es.now c.loop-e.e-index c.e-item.result c.loop-e-test.true c.e-item.is)) c.loop-e.invariant c.put_expr.ensures

pub put_all-returns : goal.put_all-returns
unfolding all_texts
put_all-returns t c = leads_all _ (ap (λ (us : List Expr). all_texts (trees us)) (drop_all c.loop-e.e-index c.args.es.now (omega arith))) c.loop-e.invariant
