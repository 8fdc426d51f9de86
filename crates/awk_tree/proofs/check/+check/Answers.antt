use Rattle.std.proofs.Common.{◌≡◌, ◌&&◌, Bool, true, List, ap, sym, ◌∙◌}
use Rattle.awk_grammar.specs.declared.tree.Expr.{Expr}
use Rattle.awk_grammar.specs.Tree.{suits}
use Rattle.awk_grammar.specs.WellFormed.{is_some_tree, well_formed, all_well_formed}
use Rattle.awk_grammar.specs.View.{view, views}
use Rattle.awk_grammar.proofs.Views.{view_element, view_call, view_apply, view_in_list}
use Rattle.awk_tree.proofs.check.+check.Goals as goal

pub is_fine-returns-in-Element : goal.is_fine-returns-in-Element
is_fine-returns-in-Element t c =
    c.are_subscripts.ensures ∙ ap (λ (es : List Expr). is_some_tree (views es) && all_well_formed true (views es)) c.deref.ensures.value
    ∙ sym (ap (well_formed c.args.greater) (ap view c.in-Element.is ∙ view_element c.in-Element.field-0 c.in-Element.subscripts))

pub is_fine-returns-in-Call : goal.is_fine-returns-in-Call
is_fine-returns-in-Call t c =
    c.are_fine.ensures ∙ ap (λ (es : List Expr). all_well_formed true (views es)) c.deref-in-Call.ensures.value
    ∙ sym (ap (well_formed c.args.greater) (ap view c.in-Call.is ∙ view_call c.in-Call.field-0 c.in-Call.arguments))

pub is_fine-returns-in-Apply : goal.is_fine-returns-in-Apply
is_fine-returns-in-Apply t c =
    c.are_arguments.ensures ∙ ap (λ (es : List Expr). suits c.in-Apply.function (views es) && all_well_formed true (views es)) c.deref-in-Apply.ensures.value
    ∙ sym (ap (well_formed c.args.greater) (ap view c.in-Apply.is ∙ view_apply c.in-Apply.function c.in-Apply.arguments))

pub is_fine-returns-then-is_fine-3 : goal.is_fine-returns-then-is_fine-3
is_fine-returns-then-is_fine-3 t c =
    let others : List Expr → Bool = λ es. is_some_tree (views es) && all_well_formed true (views es) in
    let first : well_formed true (view c.in-InList.first.value) ≡ true = sym (c.is_fine-in-InList.ensures ∙ ap (λ (e : Expr). well_formed true (view e)) c.deref-in-InList.ensures) ∙ c.if-is_fine-3.true in
    c.are_subscripts-then-is_fine-3.ensures ∙ ap others c.deref-then-is_fine-3.ensures.value
    ∙ sym (ap (well_formed c.args.greater) (ap view c.in-InList.is ∙ view_in_list c.in-InList.first c.in-InList.others c.in-InList.field-2) ∙ ap (λ b. b && others c.in-InList.others.items) first)
