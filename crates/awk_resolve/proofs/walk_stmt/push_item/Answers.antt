use Rattle.std.proofs.Common.{ℕ, List, ◌∷◌, ◌++◌, Some, ap, sym, ◌∙◌}
use Rattle.std.specs.Global.{Vec}
use Rattle.awk_grammar.specs.declared.tree.Item.{Item}
use Rattle.awk_grammar.specs.declared.tree.Stmt.{Stmt}
use Rattle.awk_grammar.specs.ViewStmt.{view_names, view_item, view_stmts}
use Rattle.awk_grammar.specs.Marks.{Defined, item_marks, parameter_marks, stmts_marks}
use Rattle.latched.proofs.LatchedLemmas.{adds_as, adds_both}
use Rattle.awk_resolve.specs.View.{view_mark}
use Rattle.awk_resolve.proofs.walk_stmt.push_item.Goals as goal

pub returns-in-Function : goal.returns-in-Function
returns-in-Function c =
    let n = c.in-Function.name.items in
    let ps = c.deref-in-Function-2.result.now in
    let f = c.deref-in-Function-3.result.now in
    let ss = c.deref-in-Function-4.result.now in
    adds_as view_mark _ _
    (ap (λ (x : List ℕ). Defined x ∷ (parameter_marks c.deref-in-Function.result.now (view_names ps) ++ stmts_marks (Some f) (view_stmts ss))) c.deref.ensures.value
    ∙ (ap (λ (x : List ℕ). Defined n ∷ (parameter_marks x (view_names ps) ++ stmts_marks (Some f) (view_stmts ss))) c.deref-in-Function.ensures.value
    ∙ (ap (λ (x : List (Vec ℕ)). Defined n ∷ (parameter_marks n (view_names x) ++ stmts_marks (Some f) (view_stmts ss))) c.deref-in-Function-2.ensures.value
    ∙ (ap (λ (x : List ℕ). Defined n ∷ (parameter_marks n (view_names c.in-Function.parameters.items) ++ stmts_marks (Some x) (view_stmts ss))) c.deref-in-Function-3.ensures.value
    ∙ (ap (λ (x : List Stmt). Defined n ∷ (parameter_marks n (view_names c.in-Function.parameters.items) ++ stmts_marks (Some n) (view_stmts x))) c.deref-in-Function-4.ensures.value
    ∙ sym (ap (λ (i : Item). item_marks (view_item i)) c.in-Function.is))))))
    (adds_both view_mark c.put.ensures (adds_both view_mark c.push_parameters.ensures c.push_stmts.ensures))
