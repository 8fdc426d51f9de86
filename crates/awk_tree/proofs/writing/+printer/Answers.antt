use Rattle.std.proofs.Common.{◌≡◌, [], ◌∷◌, ◌++◌, List, ℕ, ap, ◌∙◌, append_assoc}
use Rattle.std.proofs.lemmas.Result.{on_ok_weaker}
use Rattle.awk_grammar.specs.Token.{Token, Open, Close, Comma, InWord, Name}
use Rattle.awk_grammar.specs.Tree.{print, print_list}
use Rattle.awk_grammar.specs.Trees.{Tree, Trees, HasList}
use Rattle.awk_tree.specs.Lexemes.{lexemes}
use Rattle.awk_grammar.specs.View.{view, views}
use Rattle.awk_grammar.proofs.Views.{element_is, call_is, apply_is, in_list_is}
use Rattle.awk_tree.proofs.Parts.{two_parts, three_parts, four_parts}
use Rattle.awk_tree.proofs.writing.+printer.Goals as goal

-- the tokens in two parts
in_list_tokens : (o p q : List Token) (t : Tree) (ts : Trees) (n : List ℕ) → p ≡ o ++ (Open ∷ (print t ++ Comma ∷ [])) → q ≡ p ++ (print_list ts ++ (Close ∷ (InWord ∷ (Name n ∷ [])))) → q ≡ o ++ print (HasList t ts n)
in_list_tokens o p q t ts n e f = f ∙ ap (λ (u : List Token). u ++ (print_list ts ++ (Close ∷ (InWord ∷ (Name n ∷ []))))) e ∙ append_assoc o (Open ∷ (print t ++ Comma ∷ [])) (print_list ts ++ (Close ∷ (InWord ∷ (Name n ∷ [])))) ∙ ap (λ (u : List Token). o ++ Open ∷ u) (append_assoc (print t) (Comma ∷ []) (print_list ts ++ (Close ∷ (InWord ∷ (Name n ∷ [])))))

pub push_expr-returns-in-Element : goal.push_expr-returns-in-Element
push_expr-returns-in-Element t c =
    on_ok_weaker c.push_listed.result (λ h. h ∙ ap (λ u. lexemes c.args.out.now.items ++ print u) (element_is c.args.e.now c.in-Element.name c.in-Element.subscripts _ _ c.in-Element.is c.deref-in-Element.ensures.value c.deref-in-Element-2.ensures.value)) c.push_listed.ensures

pub push_expr-returns-in-Call : goal.push_expr-returns-in-Call
push_expr-returns-in-Call t c =
    on_ok_weaker c.push_listed-in-Call.result (λ h. h ∙ ap (λ u. lexemes c.args.out.now.items ++ print u) (call_is c.args.e.now c.in-Call.name c.in-Call.arguments _ _ c.in-Call.is c.deref-in-Call.ensures.value c.deref-in-Call-2.ensures.value)) c.push_listed-in-Call.ensures

pub push_expr-returns-in-Apply : goal.push_expr-returns-in-Apply
push_expr-returns-in-Apply t c =
    on_ok_weaker c.push_listed-in-Apply.result (λ h. h ∙ ap (λ u. lexemes c.args.out.now.items ++ print u) (apply_is c.args.e.now c.in-Apply.function c.in-Apply.arguments _ c.in-Apply.is c.deref-in-Apply.ensures.value)) c.push_listed-in-Apply.ensures

pub push_expr-returns-in_ok-push_within-in-InList : goal.push_expr-returns-in_ok-push_within-in-InList
push_expr-returns-in_ok-push_within-in-InList t c =
    on_ok_weaker c.push_others.result (λ h. in_list_tokens _ _ _ (view c.deref-in-InList.result.now) (views c.deref-in-InList-2.result.now) c.deref-in-InList-3.result.now c.in_ok-push_within-in-InList.ensures h
    ∙ ap (λ u. lexemes c.args.out.now.items ++ print u) (in_list_is c.args.e.now c.in-InList.first c.in-InList.others c.in-InList.name _ _ _ c.in-InList.is c.deref-in-InList.ensures c.deref-in-InList-2.ensures.value c.deref-in-InList-3.ensures.value)) c.push_others.ensures

pub push_expr-returns-in-Number : goal.push_expr-returns-in-Number
push_expr-returns-in-Number t c = rw (c.in-Number.is, ← c.deref.ensures.value) c.put.ensures

pub push_expr-returns-in-Str : goal.push_expr-returns-in-Str
push_expr-returns-in-Str t c = rw (c.in-Str.is, ← c.deref-in-Str.ensures.value) c.put-in-Str.ensures

pub push_expr-returns-in-Ere : goal.push_expr-returns-in-Ere
push_expr-returns-in-Ere t c = rw (c.in-Ere.is, ← c.deref-in-Ere.ensures.value) c.put-in-Ere.ensures

pub push_expr-returns-in-Length : goal.push_expr-returns-in-Length
push_expr-returns-in-Length t c = rw c.in-Length.is c.put-in-Length.ensures

pub push_expr-returns-in-Var : goal.push_expr-returns-in-Var
push_expr-returns-in-Var t c = rw (c.in-Var.is, ← c.deref-in-Var.ensures.value) c.put-in-Var.ensures

pub push_expr-returns-in-Field : goal.push_expr-returns-in-Field
push_expr-returns-in-Field t c = rw (c.in-Field.is, ← c.deref-in-Field.ensures) c.push_after.ensures

pub push_expr-returns-in-Group : goal.push_expr-returns-in-Group
push_expr-returns-in-Group t c = rw (c.in-Group.is, ← c.deref-in-Group.ensures) c.push_within.ensures

pub push_expr-returns-in-Unary : goal.push_expr-returns-in-Unary
push_expr-returns-in-Unary t c = rw (c.in-Unary.is, ← c.deref-in-Unary.ensures, ← c.prefix_mark.ensures) c.push_after-in-Unary.ensures

pub push_expr-returns-in-PreStep : goal.push_expr-returns-in-PreStep
push_expr-returns-in-PreStep t c = rw (c.in-PreStep.is, ← c.deref-in-PreStep.ensures, ← c.step_mark.ensures) c.push_after-in-PreStep.ensures

pub push_expr-returns-in-PostStep : goal.push_expr-returns-in-PostStep
push_expr-returns-in-PostStep t c = rw (c.in-PostStep.is, ← c.deref-in-PostStep.ensures, ← c.step_mark-in-PostStep.ensures) c.push_before.ensures

pub push_expr-returns-in-In : goal.push_expr-returns-in-In
push_expr-returns-in-In t c = rw (c.in-In.is, ← c.deref-in-In.ensures, ← c.deref-in-In-2.ensures.value) c.push_member.ensures

pub push_expr-returns-in-Getline : goal.push_expr-returns-in-Getline
push_expr-returns-in-Getline t c = rw c.in-Getline.is c.word.ensures

pub push_expr-returns-in-GetlineInto : goal.push_expr-returns-in-GetlineInto
push_expr-returns-in-GetlineInto t c = rw (c.in-GetlineInto.is, ← c.deref-in-GetlineInto.ensures) c.push_after-in-GetlineInto.ensures

pub push_expr-returns-in-GetlineFrom : goal.push_expr-returns-in-GetlineFrom
push_expr-returns-in-GetlineFrom t c = rw (c.in-GetlineFrom.is, ← c.deref-in-GetlineFrom.ensures) c.push_getline_from.ensures

pub push_expr-returns-in_ok-push_expr-in-Binary : goal.push_expr-returns-in_ok-push_expr-in-Binary
push_expr-returns-in_ok-push_expr-in-Binary t c =
    rw (c.in-Binary.is, ← c.deref-in-Binary.ensures, ← c.deref-in-Binary-2.ensures) (on_ok_weaker c.push_operand.result (two_parts _ _ _ _ _ c.in_ok-push_expr-in-Binary.ensures) c.push_operand.ensures)

pub push_expr-returns-in_ok-push_expr-in-Assign : goal.push_expr-returns-in_ok-push_expr-in-Assign
push_expr-returns-in_ok-push_expr-in-Assign t c =
    rw (c.in-Assign.is, ← c.deref-in-Assign.ensures, ← c.deref-in-Assign-2.ensures, ← c.assignment_mark.ensures) (on_ok_weaker c.push_after-in-Assign.result (two_parts _ _ _ _ _ c.in_ok-push_expr-in-Assign.ensures) c.push_after-in-Assign.ensures)

pub push_expr-returns-in_ok-push_after-in-GetlineIntoFrom : goal.push_expr-returns-in_ok-push_after-in-GetlineIntoFrom
push_expr-returns-in_ok-push_after-in-GetlineIntoFrom t c =
    rw (c.in-GetlineIntoFrom.is, ← c.deref-in-GetlineIntoFrom.ensures, ← c.deref-in-GetlineIntoFrom-2.ensures) (on_ok_weaker c.push_after-in-GetlineIntoFrom-2.result (two_parts _ _ _ _ _ c.in_ok-push_after-in-GetlineIntoFrom.ensures) c.push_after-in-GetlineIntoFrom-2.ensures)

pub push_expr-returns-in_ok-push_after-in-Conditional : goal.push_expr-returns-in_ok-push_after-in-Conditional
push_expr-returns-in_ok-push_after-in-Conditional t c =
    rw (c.in-Conditional.is, ← c.deref-in-Conditional.ensures, ← c.deref-in-Conditional-2.ensures, ← c.deref-in-Conditional-3.ensures)
    (on_ok_weaker c.push_after-in-Conditional-2.result (three_parts _ _ _ _ _ _ _ c.in_ok-push_expr-in-Conditional.ensures c.in_ok-push_after-in-Conditional.ensures) c.push_after-in-Conditional-2.ensures)

pub push_after-returns : goal.push_after-returns
push_after-returns t c = on_ok_weaker c.push_expr.result (two_parts _ _ _ _ _ c.in_ok-put.ensures) c.push_expr.ensures

pub push_before-returns : goal.push_before-returns
push_before-returns t c = on_ok_weaker c.mark.result (two_parts _ _ _ _ _ c.in_ok-push_expr.ensures) c.mark.ensures

pub push_operand-returns : goal.push_operand-returns
push_operand-returns t c = on_ok_weaker c.push_expr.result (two_parts _ _ _ _ _ c.in_ok-push_operator.ensures) c.push_expr.ensures

pub push_member-returns : goal.push_member-returns
push_member-returns t c = on_ok_weaker c.push_in.result (two_parts _ _ _ _ _ c.in_ok-push_expr.ensures) c.push_in.ensures

pub push_getline_from-returns : goal.push_getline_from-returns
push_getline_from-returns t c = on_ok_weaker c.push_after.result (two_parts _ _ _ _ _ c.in_ok-word.ensures) c.push_after.ensures

pub push_within-returns : goal.push_within-returns
push_within-returns t c = on_ok_weaker c.mark.result (two_parts _ _ _ _ _ c.in_ok-push_after.ensures) c.mark.ensures

pub push_others-returns : goal.push_others-returns
push_others-returns t c = on_ok_weaker c.push_in.result (three_parts _ _ _ _ _ _ _ c.in_ok-push_list.ensures c.in_ok-mark.ensures) c.push_in.ensures

pub push_listed-returns : goal.push_listed-returns
push_listed-returns t c = on_ok_weaker c.mark-2.result (four_parts _ _ _ _ _ _ _ _ _ c.in_ok-put.ensures c.in_ok-mark.ensures c.in_ok-push_list.ensures) c.mark-2.ensures
