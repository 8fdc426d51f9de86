use Rattle.std.proofs.Common.{◌+◌, drop, ap, sym, ◌∙◌, refl, arith}
use Rattle.std.proofs.lemmas.Result.{IfOk-weaker}
use Rattle.awk_grammar.specs.View.{view as tree, views as trees, view_binary}
use Rattle.awk_grammar.specs.Trees.{Tree}
use Rattle.awk_grammar.proofs.Views.{element_is, call_is, apply_is, in_list_is}
use Rattle.awk_resolve.specs.ViewKinds.{view_name}
use Rattle.mid_program.specs.Mid as plain
use Rattle.mid_program.specs.Translation.{applied_code, code_of, codes_of, given_code}
use Rattle.mid_code.specs.ViewScope.{scope_of, texts_of}
use Rattle.mid_code.proofs.CodeParts.{assign_code, binary_code, binary_is, field_code, field_kept, file_code, file_line_code, group_code, in_code, line_code, post_code, pre_code, unary_code, call_end, call_step, conditional_code, element_code, element_kept, in_list_code, index_code, each_end, each_step, given_argument, given_missing, given_other, key_each, length_more, list_code, match_code, made_then, no_trees, one_applied, one_tree, only_first, operands_end, operands_step, other_code, other_operator, place_replaced, quotient_code, record_replaced, split_by_code, split_code, split_none, substr_code, substr_from}
use Rattle.mid_code.proofs.expression.+expressions.Goals as goal

-- code

pub code-returns-in-Element : goal.code-returns-in-Element
code-returns-in-Element t c =
    IfOk-weaker c.host_array.result _ _ (λ r h. h ∙ element_code (texts_of c.args.scope.now) (scope_of c.args.scope.now) (tree c.args.e.now) _ _
    (element_is c.args.e.now c.in-Element.name c.in-Element.keys _ _ c.in-Element.is c.deref-in-Element.ensures.value
    c.deref-in-Element-2.ensures.value)) (c.host_array.ensures _ c.key.ensures)

pub code-returns-in-Call : goal.code-returns-in-Call
code-returns-in-Call t c =
    IfOk-weaker c.call.result _ _ (λ r h. h ∙ ap (code_of (texts_of c.args.scope.now) (scope_of c.args.scope.now))
    (call_is c.args.e.now c.in-Call.name c.in-Call.arguments _ _ c.in-Call.is c.deref-in-Call.ensures.value c.deref-in-Call-2.ensures.value))
    c.call.ensures

pub code-returns-in-Apply : goal.code-returns-in-Apply
code-returns-in-Apply t c =
    IfOk-weaker c.apply.result _ _ (λ r h. h ∙ ap (code_of (texts_of c.args.scope.now) (scope_of c.args.scope.now))
    (apply_is c.args.e.now c.in-Apply.function c.in-Apply.arguments _ c.in-Apply.is c.deref-in-Apply.ensures.value)) c.apply.ensures

pub code-returns-in-InList : goal.code-returns-in-InList
code-returns-in-InList t c =
    IfOk-weaker c.host_array-in-InList.result _ _ (λ r h. h ∙ in_list_code (texts_of c.args.scope.now) (scope_of c.args.scope.now) (tree c.args.e.now) _ _ _
    (in_list_is c.args.e.now c.in-InList.first c.in-InList.others c.in-InList.name _ _ _ c.in-InList.is c.deref-in-InList-2.ensures
    c.deref-in-InList.ensures.value c.deref-in-InList-3.ensures.value)) (c.host_array-in-InList.ensures _ (c.joined-key.ensures _ _ c.code-in-InList.ensures c.codes-others.ensures))

pub code-returns-in-Conditional : goal.code-returns-in-Conditional
code-returns-in-Conditional t c =
    IfOk-weaker c.conditional.result _ _ (λ r h. h ∙ conditional_code (texts_of c.args.scope.now) (scope_of c.args.scope.now) c.args.e.now _ _ _ _ _ _ c.in-Conditional.is
    c.deref-in-Conditional.ensures c.deref-in-Conditional-2.ensures c.deref-in-Conditional-3.ensures) (c.conditional.ensures _ _ _ c.code-in-Conditional.ensures c.code-in-Conditional-2.ensures c.code-in-Conditional-3.ensures)

pub kept-returns-in-Element : goal.kept-returns-in-Element
kept-returns-in-Element t c =
    IfOk-weaker c.kept_key.result _ _ (λ r h. h ∙ element_kept (texts_of c.args.scope.now) (scope_of c.args.scope.now) (tree c.args.place.now) _ _
    (element_is c.args.place.now c.in-Element.field-0 c.in-Element.subscripts _ _ c.in-Element.is refl c.deref.ensures.value)) (c.kept_key.ensures _ c.key.ensures)

pub kept-returns-in-Field : goal.kept-returns-in-Field
kept-returns-in-Field t c =
    IfOk-weaker c.kept_number.result _ _ (λ r h. h ∙ field_kept (texts_of c.args.scope.now) (scope_of c.args.scope.now) c.args.place.now _ _ c.in-Field.is c.deref-in-Field.ensures) (c.kept_number.ensures _ c.code.ensures)

pub code-returns-in-Field : goal.code-returns-in-Field
code-returns-in-Field t c =
    IfOk-weaker c.host_of.result _ _ (λ r h. h ∙ field_code (texts_of c.args.scope.now) (scope_of c.args.scope.now) c.args.e.now _ _ c.in-Field.is c.deref-in-Field.ensures) c.host_of.ensures

pub code-returns-in-Group : goal.code-returns-in-Group
code-returns-in-Group t c =
    IfOk-weaker c.code.result _ _ (λ r h. h ∙ group_code (texts_of c.args.scope.now) (scope_of c.args.scope.now) c.args.e.now _ _ c.in-Group.is c.deref-in-Group.ensures) c.code.ensures

pub code-returns-in-Unary : goal.code-returns-in-Unary
code-returns-in-Unary t c =
    IfOk-weaker c.prefixed.result _ _ (λ r h. h ∙ unary_code (texts_of c.args.scope.now) (scope_of c.args.scope.now) c.args.e.now _ _ _ c.in-Unary.is c.deref-in-Unary.ensures) (c.prefixed.ensures _ c.code-in-Unary.ensures)

pub code-returns-in-PreStep : goal.code-returns-in-PreStep
code-returns-in-PreStep t c =
    IfOk-weaker c.step_place.result _ _ (λ r h. h ∙ pre_code (texts_of c.args.scope.now) (scope_of c.args.scope.now) c.args.e.now _ _ _ _ c.in-PreStep.is c.deref-in-PreStep.ensures c.deref-in-PreStep-2.ensures) (c.step_place.ensures _ c.kept.ensures)

pub code-returns-in-PostStep : goal.code-returns-in-PostStep
code-returns-in-PostStep t c =
    IfOk-weaker c.step_place_after.result _ _ (λ r h. h ∙ post_code (texts_of c.args.scope.now) (scope_of c.args.scope.now) c.args.e.now _ _ _ _ c.in-PostStep.is c.deref-in-PostStep.ensures c.deref-in-PostStep-2.ensures) (c.step_place_after.ensures _ c.kept-in-PostStep.ensures)

pub code-returns-in-Binary : goal.code-returns-in-Binary
code-returns-in-Binary t c =
    IfOk-weaker c.combined.result _ _ (λ r h. h ∙ binary_code (texts_of c.args.scope.now) (scope_of c.args.scope.now) c.args.e.now _ _ _ _ _ c.in-Binary.is c.deref-in-Binary.ensures c.deref-in-Binary-2.ensures) (c.combined.ensures _ _ c.code-in-Binary.ensures c.operand.ensures)

pub code-returns-in-Assign : goal.code-returns-in-Assign
code-returns-in-Assign t c =
    IfOk-weaker c.assign_place.result _ _ (λ r h. h ∙ assign_code (texts_of c.args.scope.now) (scope_of c.args.scope.now) c.args.e.now _ _ _ _ _ _ c.in-Assign.is c.deref-in-Assign.ensures c.deref-in-Assign-2.ensures c.deref-in-Assign-3.ensures) (c.assign_place.ensures _ _ c.kept-in-Assign.ensures c.code-in-Assign.ensures)

pub code-returns-in-In : goal.code-returns-in-In
code-returns-in-In t c =
    IfOk-weaker c.host_array-in-In.result _ _ (λ r h. h ∙ in_code (texts_of c.args.scope.now) (scope_of c.args.scope.now) c.args.e.now _ _ _ _ c.in-In.is c.deref-in-In-2.ensures c.deref-in-In.ensures.value) (c.host_array-in-In.ensures _ c.code-in-In.ensures)

pub code-returns-in-GetlineInto : goal.code-returns-in-GetlineInto
code-returns-in-GetlineInto t c =
    IfOk-weaker c.line_into.result _ _ (λ r h. h ∙ line_code (texts_of c.args.scope.now) (scope_of c.args.scope.now) c.args.e.now _ _ _ c.in-GetlineInto.is c.deref-in-GetlineInto.ensures c.deref-in-GetlineInto-2.ensures) (c.line_into.ensures _ c.kept-in-GetlineInto.ensures)

pub code-returns-in-GetlineFrom : goal.code-returns-in-GetlineFrom
code-returns-in-GetlineFrom t c =
    IfOk-weaker c.host_number.result _ _ (λ r h. h ∙ file_code (texts_of c.args.scope.now) (scope_of c.args.scope.now) c.args.e.now _ _ c.in-GetlineFrom.is c.deref-in-GetlineFrom.ensures) (c.host_number.ensures _ c.code-in-GetlineFrom.ensures)

pub code-returns-in-GetlineIntoFrom : goal.code-returns-in-GetlineIntoFrom
code-returns-in-GetlineIntoFrom t c =
    IfOk-weaker c.file_line_into.result _ _ (λ r h. h ∙ file_line_code (texts_of c.args.scope.now) (scope_of c.args.scope.now) c.args.e.now _ _ _ _ _ c.in-GetlineIntoFrom.is c.deref-in-GetlineIntoFrom.ensures c.deref-in-GetlineIntoFrom-2.ensures c.deref-in-GetlineIntoFrom-3.ensures) (c.file_line_into.ensures _ _ c.kept-in-GetlineIntoFrom.ensures c.code-in-GetlineIntoFrom.ensures)

-- parts

pub host_of-returns : goal.host_of-returns
host_of-returns t c =
    c.host_one.ensures _ c.code.ensures

-- lists

pub push_operands-loop-e-preserved : goal.push_operands-loop-e-preserved
push_operands-loop-e-preserved t c =
    let rest = codes_of (texts_of c.args.scope.now) (scope_of c.args.scope.now) (trees (drop (c.loop-e.e-index + 1) c.args.es.now)) in
    operands_step (texts_of c.args.scope.now) (scope_of c.args.scope.now) c.loop-e.codes.items c.push_code.new.operands.items c.args.es.now c.loop-e.e-index c.e-item.result _ (omega arith) c.e-item.is
    (c.in_ok-push_code.ensures (code_of (texts_of c.args.scope.now) (scope_of c.args.scope.now) (tree c.e-item.result)) rest c.code.ensures) c.loop-e.invariant

pub push_operands-returns : goal.push_operands-returns
push_operands-returns t c = operands_end (texts_of c.args.scope.now) (scope_of c.args.scope.now) _ c.args.es.now c.loop-e.e-index _
    (omega arith) c.loop-e.invariant

pub codes-loop-e-preserved : goal.codes-loop-e-preserved
codes-loop-e-preserved t c =
    made_then c.code.result c.in_ok-push_made.ensures.items c.code.ensures
    (each_step (texts_of c.args.scope.now) (scope_of c.args.scope.now) _ _ c.args.es.now c.loop-e.e-index c.e-item.result _ (omega arith) c.e-item.is c.loop-e.invariant)

pub codes-returns : goal.codes-returns
codes-returns t c = each_end (texts_of c.args.scope.now) (scope_of c.args.scope.now) c.args.es.now c.loop-e.e-index _ (omega arith) c.loop-e.invariant

pub key-returns : goal.key-returns
key-returns t c =
    IfOk-weaker c.key_of.result _ _ (λ r h. h ∙ key_each (texts_of c.args.scope.now) (scope_of c.args.scope.now) (trees c.args.subscripts.now)) (c.key_of.ensures _ c.codes.ensures)

pub argument-returns-in-Some : goal.argument-returns-in-Some
argument-returns-in-Some t c =
    let other = code_of (texts_of c.args.scope.now) (scope_of c.args.scope.now) (tree c.args.e.now) in
    IfOk-weaker c.passed.result _ _ (λ r h. h ∙ sym (ap (λ (u : Tree). given_code (texts_of c.args.scope.now) (scope_of c.args.scope.now) (view_name c.args.parameter.now) u other) c.in-Some.ensures))
    c.passed.ensures

pub argument-returns-in-None : goal.argument-returns-in-None
argument-returns-in-None t c =
    IfOk-weaker c.code.result _ _ (λ r h. h ∙ sym (given_other (texts_of c.args.scope.now) (scope_of c.args.scope.now) (view_name c.args.parameter.now) (tree c.args.e.now) _ c.in-None.ensures)) c.code.ensures

pub given-returns-then-place-es : goal.given-returns-then-place-es
given-returns-then-place-es t c =
    given_missing (texts_of c.args.scope.now) (scope_of c.args.scope.now) (view_name c.args.parameter.now) c.missing.result c.args.es.now c.args.place (omega arith) c.missing.ensures

pub given-returns : goal.given-returns
given-returns t c =
    IfOk-weaker c.operand_of.result _ _ (λ o h ps. h _
    ∙ given_argument (texts_of c.args.scope.now) (scope_of c.args.scope.now) (view_name c.args.parameter.now) c.args.es.now c.args.place c.index-es-place.result (omega arith) c.index-es-place.is ps)
    (c.operand_of.ensures _ c.argument.ensures)

pub call-loop-i-preserved : goal.call-loop-i-preserved
call-loop-i-preserved t c =
    made_then c.given.result c.in_ok-push_made.ensures.items c.given.ensures
    (call_step (texts_of c.args.scope.now) (scope_of c.args.scope.now) _ _ c.parameters_of-parameters.result.now c.args.es.now c.loop-i.i _ _ (omega arith) c.loop-i.invariant)

pub call-returns : goal.call-returns
call-returns t c =
    c.called.ensures ∙ call_end (texts_of c.args.scope.now) (scope_of c.args.scope.now) _ c.parameters_of-parameters.result.now c.args.es.now
    c.loop-i.i _ c.args.name.now (omega arith) c.function-function.ensures c.parameters_of-parameters.ensures c.loop-i.invariant

-- built-in functions

pub apply-returns-in_ok-push_operands-in-Sprintf : goal.apply-returns-in_ok-push_operands-in-Sprintf
apply-returns-in_ok-push_operands-in-Sprintf t c =
    c.over.ensures ∙ list_code (texts_of c.args.scope.now) (scope_of c.args.scope.now) c.args.function
    (trees c.args.es.now) _ _ c.in-Sprintf.is c.new-operands.ensures.items c.in_ok-push_operands-in-Sprintf.ensures

pub apply-returns-in_default : goal.apply-returns-in_default
apply-returns-in_default t c =
    IfOk-weaker c.applied.result _ _ (λ r h. h ∙ other_code (texts_of c.args.scope.now) (scope_of c.args.scope.now) c.args.function
    (trees c.args.es.now) c.in_default.not-Sprintf) c.applied.ensures

pub applied-returns-then-is_empty : goal.applied-returns-then-is_empty
applied-returns-then-is_empty t c =
    IfOk-weaker c.apply_none.result _ _ (λ r h. h ∙ ap (applied_code (texts_of c.args.scope.now) (scope_of c.args.scope.now) c.args.function)
    (sym (no_trees c.args.es.now (cc)))) (c.apply_none.ensures (texts_of c.args.scope.now) (scope_of c.args.scope.now))

pub applied-returns-then-es-eq1 : goal.applied-returns-then-es-eq1
applied-returns-then-es-eq1 t c =
    IfOk-weaker c.apply_one.result _ _ (λ r h. h ∙ ap (applied_code (texts_of c.args.scope.now) (scope_of c.args.scope.now) c.args.function)
    (sym (one_tree c.args.es.now c.index-es-0.result (omega arith) c.index-es-0.is))) c.apply_one.ensures

pub apply_one-returns-in_default : goal.apply_one-returns-in_default
apply_one-returns-in_default t c =
    IfOk-weaker c.applied_to.result _ _ (λ r h. h ∙ one_applied (texts_of c.args.scope.now) (scope_of c.args.scope.now) c.args.function (tree c.args.e.now) c.in_default.not-Int) (c.applied_to.ensures _ c.code.ensures)

pub apply_more-returns-in_default : goal.apply_more-returns-in_default
apply_more-returns-in_default t c =
    IfOk-weaker c.apply_one.result _ _ (λ r h. h ∙ only_first (texts_of c.args.scope.now) (scope_of c.args.scope.now) c.args.function
    c.args.es.now c.index-es-0-in_default.result (omega arith) c.index-es-0-in_default.is c.in_default.not-Length c.in_default.not-Index
    c.in_default.not-Match c.in_default.not-Substr c.in_default.not-Split c.in_default.not-Sub c.in_default.not-Gsub) c.apply_one.ensures

pub apply_more-returns-in-Length : goal.apply_more-returns-in-Length
apply_more-returns-in-Length t c =
    IfOk-weaker c.record_length.result _ _ (λ r h. h ∙ length_more (texts_of c.args.scope.now)
    (scope_of c.args.scope.now) c.args.function c.args.es.now (omega arith) c.in-Length.is) c.record_length.ensures

pub apply_more-returns-in-Index : goal.apply_more-returns-in-Index
apply_more-returns-in-Index t c =
    IfOk-weaker c.host_two.result _ _ (λ r h. h ∙ index_code (texts_of c.args.scope.now) (scope_of c.args.scope.now) c.args.function c.args.es.now _ _
    (omega arith) c.index-es-0.is c.index-es-1.is c.in-Index.is) (c.host_two.ensures _ _ c.code-text.ensures c.code.ensures)

pub apply_more-returns-in-Match : goal.apply_more-returns-in-Match
apply_more-returns-in-Match t c =
    IfOk-weaker c.host_two-in-Match.result _ _ (λ r h. h ∙ match_code (texts_of c.args.scope.now) (scope_of c.args.scope.now) c.args.function c.args.es.now _ _
    (omega arith) c.index-es-0-in-Match.is c.index-es-1-in-Match.is c.in-Match.is) (c.host_two-in-Match.ensures _ _ c.code-text-in-Match.ensures c.operand-ere.ensures)

pub substr-returns-then-es-eq2 : goal.substr-returns-then-es-eq2
substr-returns-then-es-eq2 t c =
    IfOk-weaker c.host_two.result _ _ (λ r h. h ∙ substr_from (texts_of c.args.scope.now) (scope_of c.args.scope.now) c.args.es.now _ _
    (omega arith) c.index-es-0.is c.index-es-1.is) (c.host_two.ensures _ _ c.code-text.ensures c.code-from.ensures)

pub substr-returns : goal.substr-returns
substr-returns t c =
    IfOk-weaker c.part_of.result _ _ (λ r h. h ∙ substr_code (texts_of c.args.scope.now) (scope_of c.args.scope.now) c.args.es.now _ _ _
    (omega arith) c.index-es-0.is c.index-es-1.is c.index-es-2.is) (c.part_of.ensures _ _ _ c.code-text.ensures c.code-from.ensures c.code.ensures)

pub split-returns-in_default : goal.split-returns-in_default
split-returns-in_default t c = split_none (texts_of c.args.scope.now) (scope_of c.args.scope.now) c.args.es.now c.index-es-1.result
    (omega arith) c.index-es-1.is c.in_default.ensures

pub split-returns-then-es-eq2 : goal.split-returns-then-es-eq2
split-returns-then-es-eq2 t c =
    IfOk-weaker c.split_into.result _ _ (λ r h. h ∙ split_code (texts_of c.args.scope.now) (scope_of c.args.scope.now) c.args.es.now _ _ c.in-Some.name.now _
    (omega arith) c.index-es-0.is c.index-es-1.is c.in-Some.ensures (ap plain.Array c.array-array.ensures)) (c.split_into.ensures _ _ c.code-text.ensures c.field_separator.ensures)

pub split-returns : goal.split-returns
split-returns t c =
    IfOk-weaker c.split_into-2.result _ _ (λ r h. h ∙ split_by_code (texts_of c.args.scope.now) (scope_of c.args.scope.now) c.args.es.now _ _ _ c.in-Some.name.now _ _
    (omega arith) c.index-es-0.is c.index-es-1.is c.index-es-2.is c.in-Some.ensures (ap plain.Array c.array-array.ensures) c.is_ere.ensures) (c.split_into-2.ensures _ _ c.code-text.ensures c.operand-separator.ensures)

pub substitute-returns-then-es-eq2 : goal.substitute-returns-then-es-eq2
substitute-returns-then-es-eq2 t c =
    IfOk-weaker c.substitute_record.result _ _ (λ r h. h ∙ record_replaced (texts_of c.args.scope.now) (scope_of c.args.scope.now) c.args.all c.args.es.now _ _
    (omega arith) c.index-es-0.is c.index-es-1.is) (c.substitute_record.ensures _ _ c.operand-ere.ensures c.code-replacement.ensures)

pub substitute-returns : goal.substitute-returns
substitute-returns t c =
    IfOk-weaker c.substitute_place.result _ _ (λ r h. h ∙ place_replaced (texts_of c.args.scope.now) (scope_of c.args.scope.now) c.args.all c.args.es.now _ _ _
    (omega arith) c.index-es-0.is c.index-es-1.is c.index-es-2.is) (c.substitute_place.ensures _ _ _ c.kept.ensures c.operand-ere.ensures c.code-replacement.ensures)

pub truncated-returns-else-not-is_quotient : goal.truncated-returns-else-not-is_quotient
truncated-returns-else-not-is_quotient t c =
    let is = binary_is c.args.e.now c.in-Binary.op c.in-Binary.left c.in-Binary.right _ _ c.in-Binary.is c.deref-in-Binary.ensures
    c.deref-in-Binary-2.ensures in
    IfOk-weaker c.truncated_quotient.result _ _ (λ r h. h ∙ quotient_code (texts_of c.args.scope.now) (scope_of c.args.scope.now) (tree c.args.e.now) _ _
    (view_binary c.in-Binary.op) c.is_quotient.result is (c.is_quotient.ensures (texts_of c.args.scope.now) (scope_of c.args.scope.now) _ _) (cc)) (c.truncated_quotient.ensures _ _ c.code.ensures c.code-in-Binary.ensures)

pub truncated-returns-then-not-is_quotient : goal.truncated-returns-then-not-is_quotient
truncated-returns-then-not-is_quotient t c =
    let is = binary_is c.args.e.now c.in-Binary.op c.in-Binary.left c.in-Binary.right c.in-Binary.left.value c.in-Binary.right.value c.in-Binary.is
    refl refl in
    IfOk-weaker c.host_of.result _ _ (λ r h. h ∙ other_operator (texts_of c.args.scope.now) (scope_of c.args.scope.now) (tree c.args.e.now) _ _
    (view_binary c.in-Binary.op) c.is_quotient.result is (c.is_quotient.ensures (texts_of c.args.scope.now) (scope_of c.args.scope.now) _ _)
    (cc)) c.host_of.ensures
