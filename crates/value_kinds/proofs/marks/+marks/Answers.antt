use Rattle.std.proofs.Common.{List, [], ◌∷◌, ◌++◌, map, ap, sym, ◌∙◌, arith}
use Rattle.std.proofs.lemmas.List.{drop_all}
use Rattle.std.specs.Prelude.{option_map}
use Rattle.mid_program.specs.Mid as plain
use Rattle.mid_program.specs.Mid.{a_value, form_of, source_of}
use Rattle.mid_program.specs.ViewCode.{view, view_slot, views}
use Rattle.mid_program.specs.declared.code.Code.{Code}
use Rattle.mid_program.specs.declared.code.Operand.{Operand}
use Rattle.mid_program.specs.Stores.{stores, stores_given, stores_in}
use Rattle.value_kinds.specs.View.{view_form, view_kept, view_walk}
use Rattle.value_kinds.specs.Walks.{after, stores_each}
use Rattle.mid_program.proofs.Views.{view_joined}
use Rattle.value_kinds.proofs.Views.{view_call, view_do, view_over, view_replace}
use Rattle.value_kinds.proofs.Walked.{each_next, given_next, given_walked, in_next, key_walked, let_walked, set_walked, two_walked}
use Rattle.value_kinds.proofs.marks.+marks.Goals as goal

pub mark_argument-returns-in-Code : goal.mark_argument-returns-in-Code
mark_argument-returns-in-Code t c =
    let fs = view_kept c.args.kept.now in
    given_walked fs (view_walk c.args.walk.now) (view_walk c.mark_code-form.new.walk) (view_walk c.give.new.self) (view_form c.mark_code-form.result) c.args.function c.args.place (view c.in-Code.code)
    (option_map view_slot c.source_of.result) c.source_of.ensures c.mark_code-form.ensures.form c.mark_code-form.ensures.walk c.give.ensures
    ∙ ap (λ (o : Operand). after (view_walk c.args.walk.now) (stores_given c.args.function c.args.place fs (views (o ∷ [])))) (sym c.in-Code.is)

pub mark_arguments-loop-place-preserved : goal.mark_arguments-loop-place-preserved
mark_arguments-loop-place-preserved t c =
    given_next c.args.function c.loop-place.place (view_kept c.args.kept.now) (view_walk c.loop-place.walk) (view_walk c.mark_argument.new.walk) c.index-operands-place.result c.index-operands-place.result
    c.args.operands.now (omega arith) c.index-operands-place.is c.mark_argument.ensures ∙ c.loop-place.invariant

pub mark_arguments-returns : goal.mark_arguments-returns
mark_arguments-returns t c =
    ap (λ (xs : List Operand). after (view_walk c.loop-place.walk) (stores_given c.args.function c.loop-place.place (view_kept c.args.kept.now) (views xs)))
    (sym (drop_all c.loop-place.place c.args.operands.now (omega arith))) ∙ c.loop-place.invariant

pub mark_codes-loop-code-preserved : goal.mark_codes-loop-code-preserved
mark_codes-loop-code-preserved t c =
    each_next (view_kept c.args.kept.now) (view_walk c.loop-code.walk) (view_walk c.mark_code.new.walk) c.code-item.result c.code-item.result c.args.codes.now c.loop-code.code-index
    (omega arith) c.code-item.is c.mark_code.ensures.walk ∙ c.loop-code.invariant

pub mark_codes-returns : goal.mark_codes-returns
mark_codes-returns t c =
    ap (λ (xs : List Code). after (view_walk c.loop-code.walk) (stores_each (view_kept c.args.kept.now) (map view xs))) (sym (drop_all c.loop-code.code-index c.args.codes.now (omega arith)))
    ∙ c.loop-code.invariant

pub mark_operands-loop-operand-preserved : goal.mark_operands-loop-operand-preserved
mark_operands-loop-operand-preserved t c =
    in_next (view_kept c.args.kept.now) (view_walk c.loop-operand.walk) (view_walk c.mark_operand.new.walk) c.operand-item.result c.operand-item.result c.args.operands.now c.loop-operand.operand-index
    (omega arith) c.operand-item.is c.mark_operand.ensures ∙ c.loop-operand.invariant

pub mark_operands-returns : goal.mark_operands-returns
mark_operands-returns t c =
    ap (λ (xs : List Operand). after (view_walk c.loop-operand.walk) (stores_in (view_kept c.args.kept.now) (views xs))) (sym (drop_all c.loop-operand.operand-index c.args.operands.now (omega arith)))
    ∙ c.loop-operand.invariant

pub mark_code-returns-in-Do-clause-walk : goal.mark_code-returns-in-Do-clause-walk
mark_code-returns-in-Do-clause-walk t c =
    let fs = view_kept c.args.kept.now in
    let w = view_walk c.args.walk.now in
    c.mark_operands.ensures ∙ ap (λ (es : List Operand). after w (stores_in fs (views es))) c.deref.ensures.value
    ∙ ap (λ (e : plain.Code). after w (stores fs e)) (sym (ap view c.in-Do.is ∙ view_do c.in-Do.operation c.in-Do.operands))

pub mark_code-returns-in-Over-clause-walk : goal.mark_code-returns-in-Over-clause-walk
mark_code-returns-in-Over-clause-walk t c =
    let fs = view_kept c.args.kept.now in
    let w = view_walk c.args.walk.now in
    c.mark_operands-in-Over.ensures ∙ ap (λ (es : List Operand). after w (stores_in fs (views es))) c.deref-in-Over.ensures.value
    ∙ ap (λ (e : plain.Code). after w (stores fs e)) (sym (ap view c.in-Over.is ∙ view_over c.in-Over.listed c.in-Over.operands))

pub mark_code-returns-in-Call-clause-walk : goal.mark_code-returns-in-Call-clause-walk
mark_code-returns-in-Call-clause-walk t c =
    let fs = view_kept c.args.kept.now in
    let w = view_walk c.args.walk.now in
    c.mark_arguments.ensures ∙ ap (λ (es : List Operand). after w (stores_given c.in-Call.function 0 fs (views es))) c.deref-in-Call.ensures.value
    ∙ ap (λ (e : plain.Code). after w (stores fs e)) (sym (ap view c.in-Call.is ∙ view_call c.in-Call.function c.in-Call.operands))

pub mark_code-returns-in-Compare-clause-walk : goal.mark_code-returns-in-Compare-clause-walk
mark_code-returns-in-Compare-clause-walk t c =
    let fs = view_kept c.args.kept.now in
    let w = view_walk c.args.walk.now in
    let s = view_walk c.mark_code.new.walk in
    two_walked w s (view_walk c.mark_code-in-Compare.new.walk) (stores fs (view c.in-Compare.left.value)) (stores fs (view c.in-Compare.right.value))
    (c.mark_code.ensures.walk ∙ ap (λ (x : Code). after w (stores fs (view x))) c.deref-in-Compare.ensures)
    (c.mark_code-in-Compare.ensures.walk ∙ ap (λ (x : Code). after s (stores fs (view x))) c.deref-in-Compare-2.ensures)
    ∙ ap (λ (x : Code). after w (stores fs (view x))) (sym c.in-Compare.is)

pub mark_code-returns-in-FileLine-clause-walk : goal.mark_code-returns-in-FileLine-clause-walk
mark_code-returns-in-FileLine-clause-walk t c =
    let fs = view_kept c.args.kept.now in
    let w = view_walk c.args.walk.now in
    let s = view_walk c.mark_code-in-FileLine.new.walk in
    two_walked w s (view_walk c.mark_code-in-FileLine-2.new.walk) (stores fs (view c.in-FileLine.file.value)) (stores (a_value ∷ fs) (view c.in-FileLine.store.value))
    (c.mark_code-in-FileLine.ensures.walk ∙ ap (λ (x : Code). after w (stores fs (view x))) c.deref-in-FileLine.ensures)
    (c.mark_code-in-FileLine-2.ensures.walk ∙ ap (λ (x : Code). after s (stores (a_value ∷ fs) (view x))) c.deref-in-FileLine-2.ensures)
    ∙ ap (λ (x : Code). after w (stores fs (view x))) (sym c.in-FileLine.is)

pub mark_code-returns-in-Replace-clause-walk : goal.mark_code-returns-in-Replace-clause-walk
mark_code-returns-in-Replace-clause-walk t c =
    let fs = view_kept c.args.kept.now in
    let w = view_walk c.args.walk.now in
    let s = view_walk c.mark_operands-in-Replace.new.walk in
    two_walked w s (view_walk c.mark_code-in-Replace.new.walk) (stores_in fs (views c.in-Replace.operands.items)) (stores (a_value ∷ fs) (view c.in-Replace.store.value))
    (c.mark_operands-in-Replace.ensures ∙ ap (λ (xs : List Operand). after w (stores_in fs (views xs))) c.deref-in-Replace.ensures.value)
    (c.mark_code-in-Replace.ensures.walk ∙ ap (λ (x : Code). after s (stores (a_value ∷ fs) (view x))) c.deref-in-Replace-2.ensures)
    ∙ ap (λ (e : plain.Code). after w (stores fs e)) (sym (ap view c.in-Replace.is ∙ view_replace c.in-Replace.field-0 c.in-Replace.operands c.in-Replace.store))

pub mark_code-returns-in-Set-clause-walk : goal.mark_code-returns-in-Set-clause-walk
mark_code-returns-in-Set-clause-walk t c =
    let fs = view_kept c.args.kept.now in
    let w = view_walk c.args.walk.now in
    let s = view_walk c.mark_code-form.new.walk in
    set_walked fs w s (view_walk c.store.new.self) (view_form c.mark_code-form.result) (view_slot c.in-Set.slot) (view c.in-Set.value.value)
    (option_map view_slot c.source_of.result) (c.source_of.ensures ∙ ap (λ (x : Code). source_of (view x)) c.deref-in-Set-2.ensures)
    (c.mark_code-form.ensures.form ∙ ap (λ (x : Code). form_of fs (view x)) c.deref-in-Set.ensures)
    (c.mark_code-form.ensures.walk ∙ ap (λ (x : Code). after w (stores fs (view x))) c.deref-in-Set.ensures) c.store.ensures
    ∙ ap (λ (x : Code). after w (stores fs (view x))) (sym c.in-Set.is)

pub mark_code-returns-in-Choose-clause-walk : goal.mark_code-returns-in-Choose-clause-walk
mark_code-returns-in-Choose-clause-walk t c =
    let fs = view_kept c.args.kept.now in
    let w = view_walk c.args.walk.now in
    let s = view_walk c.mark_code-in-Choose.new.walk in
    let u = view_walk c.mark_code-in-Choose-2.new.walk in
    let v = view_walk c.mark_code-in-Choose-3.new.walk in
    let a = view c.in-Choose.yes.value in
    let b = view c.in-Choose.no.value in
    two_walked w s v (stores fs (view c.in-Choose.test.value)) (stores fs a ++ stores fs b)
    (c.mark_code-in-Choose.ensures.walk ∙ ap (λ (x : Code). after w (stores fs (view x))) c.deref-in-Choose.ensures)
    (two_walked s u v (stores fs a) (stores fs b)
    (c.mark_code-in-Choose-2.ensures.walk ∙ ap (λ (x : Code). after s (stores fs (view x))) c.deref-in-Choose-2.ensures)
    (c.mark_code-in-Choose-3.ensures.walk ∙ ap (λ (x : Code). after u (stores fs (view x))) c.deref-in-Choose-3.ensures))
    ∙ ap (λ (x : Code). after w (stores fs (view x))) (sym c.in-Choose.is)

pub mark_code-returns-in-Seq-clause-walk : goal.mark_code-returns-in-Seq-clause-walk
mark_code-returns-in-Seq-clause-walk t c =
    let fs = view_kept c.args.kept.now in
    let w = view_walk c.args.walk.now in
    let s = view_walk c.mark_code-in-Seq.new.walk in
    two_walked w s (view_walk c.mark_code-in-Seq-2.new.walk) (stores fs (view c.in-Seq.first.value)) (stores fs (view c.in-Seq.second.value))
    (c.mark_code-in-Seq.ensures.walk ∙ ap (λ (x : Code). after w (stores fs (view x))) c.deref-in-Seq.ensures)
    (c.mark_code-in-Seq-2.ensures.walk ∙ ap (λ (x : Code). after s (stores fs (view x))) c.deref-in-Seq-2.ensures)
    ∙ ap (λ (x : Code). after w (stores fs (view x))) (sym c.in-Seq.is)

pub mark_code-returns-in-Let-clause-walk : goal.mark_code-returns-in-Let-clause-walk
mark_code-returns-in-Let-clause-walk t c =
    let fs = view_kept c.args.kept.now in
    let w = view_walk c.args.walk.now in
    let s = view_walk c.mark_code-form-in-Let.new.walk in
    let f = view_form c.mark_code-form-in-Let.result in
    let_walked fs w s (view_walk c.mark_code-in-Let.new.walk) f (view c.in-Let.own.value) (view c.in-Let.body.value)
    (c.mark_code-form-in-Let.ensures.form ∙ ap (λ (x : Code). form_of fs (view x)) c.deref-in-Let.ensures)
    (c.mark_code-form-in-Let.ensures.walk ∙ ap (λ (x : Code). after w (stores fs (view x))) c.deref-in-Let.ensures)
    (c.mark_code-in-Let.ensures.walk ∙ ap (λ (x : Code). after s (stores (f ∷ fs) (view x))) c.deref-in-Let-2.ensures)
    ∙ ap (λ (x : Code). after w (stores fs (view x))) (sym c.in-Let.is)

pub mark_code-returns-in-Joined-clause-walk : goal.mark_code-returns-in-Joined-clause-walk
mark_code-returns-in-Joined-clause-walk t c =
    let fs = view_kept c.args.kept.now in
    let w = view_walk c.args.walk.now in
    let s = view_walk c.mark_code-in-Joined.new.walk in
    let u = view_walk c.mark_codes.new.walk in
    key_walked fs w s u (view_walk c.mark_code-in-Joined-2.new.walk) (view c.in-Joined.first.value) (map view c.in-Joined.others.items) (view c.in-Joined.last.value)
    (c.mark_code-in-Joined.ensures.walk ∙ ap (λ (x : Code). after w (stores fs (view x))) c.deref-in-Joined.ensures)
    (c.mark_codes.ensures ∙ ap (λ (es : List Code). after s (stores_each fs (map view es))) c.deref-in-Joined-2.ensures.value)
    (c.mark_code-in-Joined-2.ensures.walk ∙ ap (λ (x : Code). after u (stores fs (view x))) c.deref-in-Joined-3.ensures)
    ∙ ap (λ (e : plain.Code). after w (stores fs e)) (sym (ap view c.in-Joined.is ∙ view_joined c.in-Joined.first c.in-Joined.others c.in-Joined.last))
