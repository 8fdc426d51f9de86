use Rattle.std.proofs.Common.{rules, ◌≡◌, ℕ, suc, ◌+◌, false, List, [], ◌∷◌, ◌++◌, length, map, inr, sym, ap, ◌∙◌, subst, arith}
use Rattle.std.proofs.lemmas.Int.{to_z-of_z}
use Rattle.std.specs.Int.{w64}
use Rattle.std.specs.Prelude.{FitsSigned}
use Rattle.std.specs.Option.{option_map}
use Rattle.wasm_types.specs.Syntax.{Done}
use Rattle.mid_program.specs.Mid as plain
use Rattle.mid_program.specs.Mid.{Codes, form_of}
use Rattle.mid_program.specs.Sorted.{count_of}
use Rattle.mid_program.specs.ViewCode.{joined, view, view_slot, views}
use Rattle.mid_program.specs.declared.code.Code.{Code}
use Rattle.lower_model.specs.Arithmetic.{is_value}
use Rattle.lower_model.specs.Emission.{emitted, immediate_in}
use Rattle.lower_pieces.specs.Emits.{Emits}
use Rattle.lower_pieces.specs.Forms.{view_form}
use Rattle.lower_pieces.specs.declared.form.Form.{Form}
use Rattle.lower_pieces.proofs.Appended.{◌⨟◌, same}
use Rattle.lower_quick.specs.View.{view_addition}
use Rattle.lower_expressions.specs.CodeAt.{Unrefused}
use Rattle.lower_expressions.specs.Fits.{AllFit, Fits}
use Rattle.lower_expressions.specs.Keeps.{keeping_in}
use Rattle.lower_expressions.specs.Parts.{all_joined, forms_in}
use Rattle.lower_expressions.specs.View.{view_immediate, view_layout}
use Rattle.lower_expressions.specs.declared.at.At.{At}
use Rattle.lower_expressions.proofs.Arms.{anyway_emitted, assignment_emitted, branch_emitted, call_emitted, choice_emitted, code_emitted, comparison_emitted, field_emitted, file_line_emitted, fixed_emitted, form_added, fresh_emitted, immediate_emitted, keeping_emitted, kept_form, line_emitted, listing_emitted, next_operand, no_form, none_emitted, operation_emitted, replace_emitted, sequence_emitted, stored_emitted, sum_emitted}
use Rattle.lower_expressions.proofs.FitLemmas.{all_places, all_within, arrays_fit, immediate_fits, inner_fits, label_fits, next_fits, operands_fit_inside, operation_place, outer_within, place_fits}
use Rattle.lower_expressions.proofs.Keys.{counted_on, key_fits, key_weighs, subscript_noted}
use Rattle.lower_expressions.proofs.Refusals.{weaker}
use Rattle.lower_expressions.proofs.SourceLemmas.{addition_fits}
use Rattle.lower_expressions.proofs.WalkLemmas.{no_items}
use Rattle.lower_expressions.proofs.Views.{call_view, do_view, key_view, over_view, replace_view}
use Rattle.lower_expressions.proofs.Weights.{weight, weights}
use Rattle.lower_expressions.proofs.expressions.+expressions.Goals as goal

-- expressions

pub evaluated-operation-requires : goal.evaluated-operation-requires
evaluated-operation-requires t c =
    let is = do_view c.args.code.now c.in-Do.what c.in-Do.operands c.deref.result.now c.in-Do.is c.deref.ensures.value in
    let w = ap weight is in (
      omega (arith, w, c.decreases),
      subst (λ (x : plain.Code). Fits (view_layout c.args.layout.now) x c.args.at.temporary c.args.at.arrays c.args.at.exit)
          (sym is) c.requires,
    )

pub evaluated-listing-requires : goal.evaluated-listing-requires
evaluated-listing-requires t c =
    let is = over_view c.args.code.now c.in-Over.what c.in-Over.operands c.deref-in-Over.result.now c.in-Over.is c.deref-in-Over.ensures.value in
    let w = ap weight is in (
      omega (arith, w, c.decreases),
      subst (λ (x : plain.Code). Fits (view_layout c.args.layout.now) x c.args.at.temporary c.args.at.arrays c.args.at.exit)
          (sym is) c.requires,
    )

pub evaluated-call-requires : goal.evaluated-call-requires
evaluated-call-requires t c =
    let is = call_view c.args.code.now c.in-Call.function c.in-Call.operands c.deref-in-Call.result.now c.in-Call.is c.deref-in-Call.ensures.value in
    let w = ap weight is in (
      omega (arith, w, c.decreases),
      subst (λ (x : plain.Code). Fits (view_layout c.args.layout.now) x c.args.at.temporary c.args.at.arrays c.args.at.exit)
          (sym is) c.requires,
    )

pub evaluated-replacement-requires : goal.evaluated-replacement-requires
evaluated-replacement-requires t c =
    let is = replace_view c.args.code.now c.in-Replace.all c.in-Replace.operands c.deref-in-Replace.result.now c.in-Replace.store
    c.deref-in-Replace-2.result.now c.in-Replace.is c.deref-in-Replace.ensures.value c.deref-in-Replace-2.ensures in
    let w = ap weight is in (
      omega (arith, w, c.decreases),
      subst (λ (x : plain.Code). Fits (view_layout c.args.layout.now) x c.args.at.temporary c.args.at.arrays c.args.at.exit)
          (sym is) c.requires,
    )

pub evaluated-returns-in-Do-clause-form : goal.evaluated-returns-in-Do-clause-form
evaluated-returns-in-Do-clause-form t c = c.operation.ensures.form ∙ ap (form_of (keeping_in c.args.keeps.now).forms) (do_view c.args.code.now
    c.in-Do.what c.in-Do.operands c.deref.result.now c.in-Do.is c.deref.ensures.value)

pub evaluated-returns-in-Do-clause-emits : goal.evaluated-returns-in-Do-clause-emits
evaluated-returns-in-Do-clause-emits t c = rw (do_view c.args.code.now c.in-Do.what c.in-Do.operands c.deref.result.now c.in-Do.is c.deref.ensures.value)
    at (c.operation.ensures.emits c.args.only)

pub evaluated-returns-in-Over-clause-form : goal.evaluated-returns-in-Over-clause-form
evaluated-returns-in-Over-clause-form t c = c.listing.ensures.form ∙ ap (form_of (keeping_in c.args.keeps.now).forms) (over_view
    c.args.code.now c.in-Over.what c.in-Over.operands c.deref-in-Over.result.now c.in-Over.is c.deref-in-Over.ensures.value)

pub evaluated-returns-in-Over-clause-emits : goal.evaluated-returns-in-Over-clause-emits
evaluated-returns-in-Over-clause-emits t c = rw (over_view c.args.code.now c.in-Over.what c.in-Over.operands c.deref-in-Over.result.now c.in-Over.is
    c.deref-in-Over.ensures.value) at (c.listing.ensures.emits c.args.only)

pub evaluated-returns-in-Call-clause-form : goal.evaluated-returns-in-Call-clause-form
evaluated-returns-in-Call-clause-form t c = c.call.ensures.form ∙ ap (form_of (keeping_in c.args.keeps.now).forms) (call_view c.args.code.now
    c.in-Call.function c.in-Call.operands c.deref-in-Call.result.now c.in-Call.is c.deref-in-Call.ensures.value)

pub evaluated-returns-in-Call-clause-emits : goal.evaluated-returns-in-Call-clause-emits
evaluated-returns-in-Call-clause-emits t c = rw (call_view c.args.code.now c.in-Call.function c.in-Call.operands c.deref-in-Call.result.now c.in-Call.is
    c.deref-in-Call.ensures.value) at (c.call.ensures.emits c.args.only)

pub evaluated-returns-in-Replace-clause-form : goal.evaluated-returns-in-Replace-clause-form
evaluated-returns-in-Replace-clause-form t c = c.replacement.ensures.form ∙ ap (form_of (keeping_in c.args.keeps.now).forms) (replace_view
    c.args.code.now c.in-Replace.all c.in-Replace.operands c.deref-in-Replace.result.now c.in-Replace.store c.deref-in-Replace-2.result.now c.in-Replace.is
    c.deref-in-Replace.ensures.value c.deref-in-Replace-2.ensures)

pub evaluated-returns-in-Replace-clause-emits : goal.evaluated-returns-in-Replace-clause-emits
evaluated-returns-in-Replace-clause-emits t c = rw (replace_view c.args.code.now c.in-Replace.all c.in-Replace.operands c.deref-in-Replace.result.now
    c.in-Replace.store c.deref-in-Replace-2.result.now c.in-Replace.is c.deref-in-Replace.ensures.value c.deref-in-Replace-2.ensures) at
    (c.replacement.ensures.emits c.args.only)

pub evaluated-returns-in-Compare-clause-emits : goal.evaluated-returns-in-Compare-clause-emits
evaluated-returns-in-Compare-clause-emits t c = rw ((λ i. plain.Compare c.in-Compare.op (view (c.deref-in-Compare.ensures i)) (view
    (c.deref-in-Compare-2.ensures i))) ∙ sym (ap view c.in-Compare.is)) at (c.comparison.ensures.emits c.args.only)

pub evaluated-returns-in-AskLine-clause-emits : goal.evaluated-returns-in-AskLine-clause-emits
evaluated-returns-in-AskLine-clause-emits t c = rw ((λ i. plain.AskLine (view (c.deref-in-AskLine.ensures i))) ∙ sym (ap view c.in-AskLine.is)) at
    (c.line_into.ensures.emits c.args.only)

pub evaluated-returns-in-FileLine-clause-emits : goal.evaluated-returns-in-FileLine-clause-emits
evaluated-returns-in-FileLine-clause-emits t c = rw ((λ i. plain.FileLine (view (c.deref-in-FileLine.ensures i)) (view (c.deref-in-FileLine-2.ensures
    i))) ∙ sym (ap view c.in-FileLine.is)) at (c.file_line.ensures.emits c.args.only)

pub evaluated-returns-in-Choose-clause-emits : goal.evaluated-returns-in-Choose-clause-emits
evaluated-returns-in-Choose-clause-emits t c = rw ((λ i. plain.Choose c.in-Choose.sort (view (c.deref-in-Choose.ensures i)) (view
    (c.deref-in-Choose-2.ensures i)) (view (c.deref-in-Choose-3.ensures i))) ∙ sym (ap view c.in-Choose.is)) at (c.choice.ensures.emits c.args.only)

pub evaluated-returns-in-Seq-clause-emits : goal.evaluated-returns-in-Seq-clause-emits
evaluated-returns-in-Seq-clause-emits t c = rw ((λ i. plain.Seq (view (c.deref-in-Seq.ensures i)) (view (c.deref-in-Seq-2.ensures i))) ∙ sym (ap view
    c.in-Seq.is)) at c.sequence.ensures.emits

pub evaluated-returns-in-Let-clause-emits : goal.evaluated-returns-in-Let-clause-emits
evaluated-returns-in-Let-clause-emits t c = rw ((λ i. plain.Let (view (c.deref-in-Let.ensures i)) (view (c.deref-in-Let-2.ensures i))) ∙ sym (ap view
    c.in-Let.is)) at c.keeping.ensures.emits

-- code of other code

pub evaluated-comparison-requires : goal.evaluated-comparison-requires
evaluated-comparison-requires t c =
    let is = (λ i. plain.Compare c.in-Compare.op (view (c.deref-in-Compare.ensures i)) (view (c.deref-in-Compare-2.ensures i))) ∙ sym (ap view c.in-Compare.is) in
    let w = ap weight is in (omega (arith, w, c.decreases), subst (λ (x : plain.Code). Fits (view_layout c.args.layout.now) x c.args.at.temporary c.args.at.arrays c.args.at.exit) (sym is) c.requires)

pub evaluated-returns-in-Compare-clause-form : goal.evaluated-returns-in-Compare-clause-form
evaluated-returns-in-Compare-clause-form t c = c.comparison.ensures.form ∙ ap (form_of (keeping_in c.args.keeps.now).forms) ((λ i. plain.Compare c.in-Compare.op (view (c.deref-in-Compare.ensures i)) (view (c.deref-in-Compare-2.ensures i))) ∙ sym (ap view c.in-Compare.is))

pub evaluated-line_into-requires : goal.evaluated-line_into-requires
evaluated-line_into-requires t c =
    let is = (λ i. plain.AskLine (view (c.deref-in-AskLine.ensures i))) ∙ sym (ap view c.in-AskLine.is) in
    let w = ap weight is in (omega (arith, w, c.decreases), subst (λ (x : plain.Code). Fits (view_layout c.args.layout.now) x c.args.at.temporary c.args.at.arrays c.args.at.exit) (sym is) c.requires)

pub evaluated-returns-in-AskLine-clause-form : goal.evaluated-returns-in-AskLine-clause-form
evaluated-returns-in-AskLine-clause-form t c = c.line_into.ensures.form ∙ ap (form_of (keeping_in c.args.keeps.now).forms) ((λ i. plain.AskLine (view (c.deref-in-AskLine.ensures i))) ∙ sym (ap view c.in-AskLine.is))

pub evaluated-file_line-requires : goal.evaluated-file_line-requires
evaluated-file_line-requires t c =
    let is = (λ i. plain.FileLine (view (c.deref-in-FileLine.ensures i)) (view (c.deref-in-FileLine-2.ensures i))) ∙ sym (ap view c.in-FileLine.is) in
    let w = ap weight is in (omega (arith, w, c.decreases), subst (λ (x : plain.Code). Fits (view_layout c.args.layout.now) x c.args.at.temporary c.args.at.arrays c.args.at.exit) (sym is) c.requires)

pub evaluated-returns-in-FileLine-clause-form : goal.evaluated-returns-in-FileLine-clause-form
evaluated-returns-in-FileLine-clause-form t c = c.file_line.ensures.form ∙ ap (form_of (keeping_in c.args.keeps.now).forms) ((λ i. plain.FileLine (view (c.deref-in-FileLine.ensures i)) (view (c.deref-in-FileLine-2.ensures i))) ∙ sym (ap view c.in-FileLine.is))

pub evaluated-assignment-requires : goal.evaluated-assignment-requires
evaluated-assignment-requires t c =
    let is = (λ i. plain.Set (view_slot c.in-Set.slot) (view (c.deref-in-Set.ensures i))) ∙ sym (ap view c.in-Set.is) in
    let w = ap weight is in (omega (arith, w, c.decreases), subst (λ (x : plain.Code). Fits (view_layout c.args.layout.now) x c.args.at.temporary c.args.at.arrays c.args.at.exit) (sym is) c.requires)

pub evaluated-returns-in-Set-clause-form : goal.evaluated-returns-in-Set-clause-form
evaluated-returns-in-Set-clause-form t c = c.assignment.ensures.form ∙ ap (form_of (keeping_in c.args.keeps.now).forms) ((λ i. plain.Set (view_slot c.in-Set.slot) (view (c.deref-in-Set.ensures i))) ∙ sym (ap view c.in-Set.is))

pub evaluated-returns-in-Set-clause-emits : goal.evaluated-returns-in-Set-clause-emits
evaluated-returns-in-Set-clause-emits t c = rw ((λ i. plain.Set (view_slot c.in-Set.slot) (view (c.deref-in-Set.ensures i))) ∙ sym (ap view c.in-Set.is)) at
    c.assignment.ensures.emits

pub evaluated-choice-requires : goal.evaluated-choice-requires
evaluated-choice-requires t c =
    let is = (λ i. plain.Choose c.in-Choose.sort (view (c.deref-in-Choose.ensures i)) (view (c.deref-in-Choose-2.ensures i)) (view (c.deref-in-Choose-3.ensures i))) ∙ sym (ap view c.in-Choose.is) in
    let w = ap weight is in (omega (arith, w, c.decreases), subst (λ (x : plain.Code). Fits (view_layout c.args.layout.now) x c.args.at.temporary c.args.at.arrays c.args.at.exit) (sym is) c.requires)

pub evaluated-returns-in-Choose-clause-form : goal.evaluated-returns-in-Choose-clause-form
evaluated-returns-in-Choose-clause-form t c = c.choice.ensures.form ∙ ap (form_of (keeping_in c.args.keeps.now).forms) ((λ i. plain.Choose c.in-Choose.sort (view (c.deref-in-Choose.ensures i)) (view (c.deref-in-Choose-2.ensures i)) (view (c.deref-in-Choose-3.ensures i))) ∙ sym (ap view c.in-Choose.is))

pub evaluated-sequence-requires : goal.evaluated-sequence-requires
evaluated-sequence-requires t c =
    let is = (λ i. plain.Seq (view (c.deref-in-Seq.ensures i)) (view (c.deref-in-Seq-2.ensures i))) ∙ sym (ap view c.in-Seq.is) in
    let w = ap weight is in (omega (arith, w, c.decreases), subst (λ (x : plain.Code). Fits (view_layout c.args.layout.now) x c.args.at.temporary c.args.at.arrays c.args.at.exit) (sym is) c.requires)

pub evaluated-returns-in-Seq-clause-form : goal.evaluated-returns-in-Seq-clause-form
evaluated-returns-in-Seq-clause-form t c = c.sequence.ensures.form ∙ ap (form_of (keeping_in c.args.keeps.now).forms) ((λ i. plain.Seq (view (c.deref-in-Seq.ensures i)) (view (c.deref-in-Seq-2.ensures i))) ∙ sym (ap view c.in-Seq.is))

pub evaluated-keeping-requires : goal.evaluated-keeping-requires
evaluated-keeping-requires t c =
    let is = (λ i. plain.Let (view (c.deref-in-Let.ensures i)) (view (c.deref-in-Let-2.ensures i))) ∙ sym (ap view c.in-Let.is) in
    let w = ap weight is in (omega (arith, w, c.decreases), subst (λ (x : plain.Code). Fits (view_layout c.args.layout.now) x c.args.at.temporary c.args.at.arrays c.args.at.exit) (sym is) c.requires)

pub evaluated-returns-in-Let-clause-form : goal.evaluated-returns-in-Let-clause-form
evaluated-returns-in-Let-clause-form t c = c.keeping.ensures.form ∙ ap (form_of (keeping_in c.args.keeps.now).forms) ((λ i. plain.Let (view (c.deref-in-Let.ensures i)) (view (c.deref-in-Let-2.ensures i))) ∙ sym (ap view c.in-Let.is))

-- code with no code within it

pub evaluated-line-requires : goal.evaluated-line-requires
evaluated-line-requires t c = subst (λ (x : plain.Code). Fits (view_layout c.args.layout.now) x c.args.at.temporary c.args.at.arrays c.args.at.exit) (ap view c.in-Ask.is) c.requires

pub evaluated-returns-in-Ask-clause-emits : goal.evaluated-returns-in-Ask-clause-emits
unfolding emitted
evaluated-returns-in-Ask-clause-emits t c =
    subst (λ (x : plain.Code). Emits c.args.out.now c.line.new.out
    (emitted (view_layout c.args.layout.now) c.args.only (keeping_in c.args.keeps.now).forms (keeping_in c.args.keeps.now).temporaries x c.args.at.temporary c.args.at.arrays c.args.at.exit))
    (sym (ap view c.in-Ask.is)) c.line.ensures.emits

pub evaluated-returns-in-Ask-clause-form : goal.evaluated-returns-in-Ask-clause-form
evaluated-returns-in-Ask-clause-form t c = c.line.ensures.form ∙ ap (form_of (keeping_in c.args.keeps.now).forms) (sym (ap view c.in-Ask.is))

pub evaluated-constant-requires : goal.evaluated-constant-requires
evaluated-constant-requires t c = subst (λ (x : plain.Code). Fits (view_layout c.args.layout.now) x c.args.at.temporary c.args.at.arrays c.args.at.exit) (ap view c.in-Number.is) c.requires

pub evaluated-returns-in-Number-clause-form : goal.evaluated-returns-in-Number-clause-form
evaluated-returns-in-Number-clause-form t c = c.constant.ensures.form ∙ ap (form_of (keeping_in c.args.keeps.now).forms) (sym (ap view c.in-Number.is))

pub evaluated-text-requires-clause-within : goal.evaluated-text-requires-clause-within
evaluated-text-requires-clause-within t c = (subst (λ (x : plain.Code). Fits (view_layout c.args.layout.now) x c.args.at.temporary c.args.at.arrays c.args.at.exit) (ap view c.in-Text.is) c.requires).0

pub evaluated-text-requires-clause-there : goal.evaluated-text-requires-clause-there
evaluated-text-requires-clause-there t c = (subst (λ (x : plain.Code). Fits (view_layout c.args.layout.now) x c.args.at.temporary c.args.at.arrays c.args.at.exit) (ap view c.in-Text.is) c.requires).1

pub evaluated-returns-in-Text-clause-emits : goal.evaluated-returns-in-Text-clause-emits
unfolding emitted
evaluated-returns-in-Text-clause-emits t c =
    subst (λ (x : plain.Code). Emits c.args.out.now c.text.new.out
    (emitted (view_layout c.args.layout.now) c.args.only (keeping_in c.args.keeps.now).forms (keeping_in c.args.keeps.now).temporaries x c.args.at.temporary c.args.at.arrays c.args.at.exit))
    (sym (ap view c.in-Text.is)) c.text.ensures.emits

pub evaluated-returns-in-Text-clause-form : goal.evaluated-returns-in-Text-clause-form
evaluated-returns-in-Text-clause-form t c = c.text.ensures.form ∙ ap (form_of (keeping_in c.args.keeps.now).forms) (sym (ap view c.in-Text.is))

pub evaluated-unset-requires : goal.evaluated-unset-requires
evaluated-unset-requires t c = subst (λ (x : plain.Code). Fits (view_layout c.args.layout.now) x c.args.at.temporary c.args.at.arrays c.args.at.exit) (ap view c.in-Unset.is) c.requires

pub evaluated-returns-in-Unset-clause-emits : goal.evaluated-returns-in-Unset-clause-emits
unfolding emitted
evaluated-returns-in-Unset-clause-emits t c =
    subst (λ (x : plain.Code). Emits c.args.out.now c.unset.new.out
    (emitted (view_layout c.args.layout.now) c.args.only (keeping_in c.args.keeps.now).forms (keeping_in c.args.keeps.now).temporaries x c.args.at.temporary c.args.at.arrays c.args.at.exit))
    (sym (ap view c.in-Unset.is)) c.unset.ensures.emits

pub evaluated-returns-in-Unset-clause-form : goal.evaluated-returns-in-Unset-clause-form
evaluated-returns-in-Unset-clause-form t c = c.unset.ensures.form ∙ ap (form_of (keeping_in c.args.keeps.now).forms) (sym (ap view c.in-Unset.is))

pub evaluated-variable-requires-clause-within : goal.evaluated-variable-requires-clause-within
evaluated-variable-requires-clause-within t c = (subst (λ (x : plain.Code). Fits (view_layout c.args.layout.now) x c.args.at.temporary c.args.at.arrays c.args.at.exit) (ap view c.in-Get.is) c.requires).0

pub evaluated-variable-requires-clause-slot : goal.evaluated-variable-requires-clause-slot
evaluated-variable-requires-clause-slot t c = (subst (λ (x : plain.Code). Fits (view_layout c.args.layout.now) x c.args.at.temporary c.args.at.arrays c.args.at.exit) (ap view c.in-Get.is) c.requires).1

pub evaluated-returns-in-Get-clause-emits : goal.evaluated-returns-in-Get-clause-emits
unfolding emitted
evaluated-returns-in-Get-clause-emits t c =
    subst (λ (x : plain.Code). Emits c.args.out.now c.variable.new.out
    (emitted (view_layout c.args.layout.now) c.args.only (keeping_in c.args.keeps.now).forms (keeping_in c.args.keeps.now).temporaries x c.args.at.temporary c.args.at.arrays c.args.at.exit))
    (sym (ap view c.in-Get.is)) c.variable.ensures.emits

pub evaluated-returns-in-Get-clause-form : goal.evaluated-returns-in-Get-clause-form
evaluated-returns-in-Get-clause-form t c = c.variable.ensures.form ∙ ap (form_of (keeping_in c.args.keeps.now).forms) (sym (ap view c.in-Get.is))

pub evaluated-is_open-requires-clause-within : goal.evaluated-is_open-requires-clause-within
evaluated-is_open-requires-clause-within t c = (subst (λ (x : plain.Code). Fits (view_layout c.args.layout.now) x c.args.at.temporary c.args.at.arrays c.args.at.exit) (ap view c.in-IsOpen.is) c.requires).0

pub evaluated-is_open-requires-clause-few : goal.evaluated-is_open-requires-clause-few
evaluated-is_open-requires-clause-few t c = (subst (λ (x : plain.Code). Fits (view_layout c.args.layout.now) x c.args.at.temporary c.args.at.arrays c.args.at.exit) (ap view c.in-IsOpen.is) c.requires).1

pub evaluated-returns-in-IsOpen-clause-emits : goal.evaluated-returns-in-IsOpen-clause-emits
unfolding emitted
evaluated-returns-in-IsOpen-clause-emits t c =
    subst (λ (x : plain.Code). Emits c.args.out.now c.is_open.new.out
    (emitted (view_layout c.args.layout.now) c.args.only (keeping_in c.args.keeps.now).forms (keeping_in c.args.keeps.now).temporaries x c.args.at.temporary c.args.at.arrays c.args.at.exit))
    (sym (ap view c.in-IsOpen.is)) c.is_open.ensures.emits

pub evaluated-returns-in-IsOpen-clause-form : goal.evaluated-returns-in-IsOpen-clause-form
evaluated-returns-in-IsOpen-clause-form t c = c.is_open.ensures.form ∙ ap (form_of (keeping_in c.args.keeps.now).forms) (sym (ap view c.in-IsOpen.is))

pub evaluated-bound-requires : goal.evaluated-bound-requires
evaluated-bound-requires t c = subst (λ (x : plain.Code). Fits (view_layout c.args.layout.now) x c.args.at.temporary c.args.at.arrays c.args.at.exit) (ap view c.in-Bound.is) c.requires

pub evaluated-returns-in-Bound-clause-emits : goal.evaluated-returns-in-Bound-clause-emits
unfolding emitted
evaluated-returns-in-Bound-clause-emits t c =
    subst (λ (x : plain.Code). Emits c.args.out.now c.bound.new.out
    (emitted (view_layout c.args.layout.now) c.args.only (keeping_in c.args.keeps.now).forms (keeping_in c.args.keeps.now).temporaries x c.args.at.temporary c.args.at.arrays c.args.at.exit))
    (sym (ap view c.in-Bound.is)) c.bound.ensures.emits

pub evaluated-returns-in-Bound-clause-form : goal.evaluated-returns-in-Bound-clause-form
evaluated-returns-in-Bound-clause-form t c = c.bound.ensures.form ∙ ap (form_of (keeping_in c.args.keeps.now).forms) (sym (ap view c.in-Bound.is))

pub evaluated-returns-in-Array-clause-emits : goal.evaluated-returns-in-Array-clause-emits
unfolding emitted
evaluated-returns-in-Array-clause-emits t c =
    subst (λ (x : plain.Code). Emits c.args.out.now c.args.out.now
    (emitted (view_layout c.args.layout.now) c.args.only (keeping_in c.args.keeps.now).forms (keeping_in c.args.keeps.now).temporaries x c.args.at.temporary c.args.at.arrays c.args.at.exit))
    (sym (ap view c.in-Array.is)) (λ k whole h. h)

-- keys

pub evaluated-key-requires : goal.evaluated-key-requires
evaluated-key-requires t c =
    let is = key_view c.args.code.now c.in-Joined.first c.in-Joined.others c.in-Joined.last c.deref-in-Joined.result.now c.deref-in-Joined-2.result.now
    c.deref-in-Joined-3.result.now c.in-Joined.is c.deref-in-Joined.ensures c.deref-in-Joined-2.ensures.value c.deref-in-Joined-3.ensures in
    let w = ap weight is in (
      omega (arith, w, c.decreases),
      subst (λ (x : plain.Code). Fits (view_layout c.args.layout.now) x c.args.at.temporary c.args.at.arrays c.args.at.exit)
          (sym is) c.requires,
    )

pub evaluated-returns-in-Joined-clause-form : goal.evaluated-returns-in-Joined-clause-form
evaluated-returns-in-Joined-clause-form t c =
    let is = key_view c.args.code.now c.in-Joined.first c.in-Joined.others c.in-Joined.last c.deref-in-Joined.result.now c.deref-in-Joined-2.result.now
    c.deref-in-Joined-3.result.now c.in-Joined.is c.deref-in-Joined.ensures c.deref-in-Joined-2.ensures.value c.deref-in-Joined-3.ensures in
    c.key.ensures.form ∙ ap (form_of (keeping_in c.args.keeps.now).forms) is

pub evaluated-returns-in-Joined-clause-emits : goal.evaluated-returns-in-Joined-clause-emits
evaluated-returns-in-Joined-clause-emits t c =
    let is = key_view c.args.code.now c.in-Joined.first c.in-Joined.others c.in-Joined.last c.deref-in-Joined.result.now c.deref-in-Joined-2.result.now
    c.deref-in-Joined-3.result.now c.in-Joined.is c.deref-in-Joined.ensures c.deref-in-Joined-2.ensures.value c.deref-in-Joined-3.ensures in
    rw is at (c.key.ensures.emits c.args.only)

pub key-evaluated-form-requires : goal.key-evaluated-form-requires
key-evaluated-form-requires t c = (omega (arith, c.decreases), c.requires.1.0)

pub key-next-place-requires : goal.key-next-place-requires
key-next-place-requires t c = c.requires.0

pub key-evaluated-form-requires-in-Some : goal.key-evaluated-form-requires-in-Some
key-evaluated-form-requires-in-Some t c =
    let last = view c.args.last.now in
    let left = c.loop-other.left.now in
    let rest = c.in-Some.rest.now in
    let x = c.in-Some.other.now in
    let place = c.loop-other.place in
    let is = c.in-Some.ensures.cases.0 in
    let here = c.loop-other.invariant in
    let n = key_weighs left rest x last is in (
      omega (arith, c.decreases, n.0, here.lighter),
      (key_fits (view_layout c.args.layout.now) left rest x last place.temporary place.arrays place.exit is here.fit).0.1,
    )

pub key-next-place-requires-in-Some : goal.key-next-place-requires-in-Some
key-next-place-requires-in-Some t c =
    let place = c.loop-other.place in
    (key_fits (view_layout c.args.layout.now) c.loop-other.left.now c.in-Some.rest.now c.in-Some.other.now (view c.args.last.now) place.temporary place.arrays
    place.exit c.in-Some.ensures.cases.0 c.loop-other.invariant.fit).0.0

pub key-loop-other-init : goal.key-loop-other-init
key-loop-other-init t c =
    let y = view_layout c.args.layout.now in
    let fs = (keeping_in c.args.keeps.now).forms in
    let ts = (keeping_in c.args.keeps.now).temporaries in
    let t = c.args.at.temporary in
    let w = c.args.at.arrays in
    let d = c.args.at.exit in
    let es = map view c.args.others.now in
    let last = view c.args.last.now in
    let new = c.noted.new.forms.items in
    let form = c.evaluated-form.result in
    let empty = c.new-forms.ensures.items in
    let one : Unrefused c.noted.new.out (new ≡ form ∷ []) = weaker (λ e. e ∙ ap (λ (xs : List Form). xs ++ form ∷ []) empty) c.noted.ensures.forms in
    let first : c.next-place.result.temporary ≡ suc t = ap (λ (a : At). a.temporary) c.next-place.ensures in
    let start : Unrefused c.args.out.now (t ≡ t + 0) = inr (omega arith) in
    record {
      fit = rw c.next-place.ensures c.requires.1.1;
      arrays = ap (λ (a : At). a.arrays) c.next-place.ensures;
      exit = ap (λ (a : At). a.exit) c.next-place.ensures;
      few = let none = ap length empty in let most = c.noted.ensures.few in omega (arith, first, none, most);
      counted = weaker (λ e. first ∙ e) (counted_on [] new form t t start c.evaluated-form.ensures.emits c.noted.ensures.emits one);
      emits = λ v k. same (ap (λ (n : ℕ). emitted y false fs ts (joined es last) n w d
          (all_joined y (map view_form new) (form_of fs (joined es last)) t d k)) first)
          ⨟ subscript_noted y v fs ts (view c.args.first.now) es last form [] new t t w d c.args.out.now c.evaluated-form.new.out c.noted.new.out k
          c.evaluated-form.ensures.form start c.evaluated-form.ensures.emits c.noted.ensures.emits one;
      lighter = omega arith;
    }

pub key-loop-other-preserved : goal.key-loop-other-preserved
key-loop-other-preserved t c =
    let y = view_layout c.args.layout.now in
    let fs = (keeping_in c.args.keeps.now).forms in
    let ts = (keeping_in c.args.keeps.now).temporaries in
    let t = c.args.at.temporary in
    let w = c.args.at.arrays in
    let d = c.args.at.exit in
    let last = view c.args.last.now in
    let left = c.loop-other.left.now in
    let rest = c.in-Some.rest.now in
    let x = c.in-Some.other.now in
    let place = c.loop-other.place.temporary in
    let was = c.loop-other.forms.items in
    let new = c.noted-in-Some.new.forms.items in
    let form = c.evaluated-form-in-Some.result in
    let is = c.in-Some.ensures.cases.0 in
    let here = c.loop-other.invariant in
    let further : c.next-place-in-Some.result.temporary ≡ suc place = ap (λ (a : At). a.temporary) c.next-place-in-Some.ensures in
    let code = rw (here.arrays, here.exit) at c.evaluated-form-in-Some.ensures.emits in
    record {
      fit = rw c.next-place-in-Some.ensures (key_fits y left rest x last place c.loop-other.place.arrays c.loop-other.place.exit is here.fit).1;
      arrays = ap (λ (a : At). a.arrays) c.next-place-in-Some.ensures ∙ here.arrays;
      exit = ap (λ (a : At). a.exit) c.next-place-in-Some.ensures ∙ here.exit;
      few = let most = c.noted-in-Some.ensures.few in omega (arith, further, here.few, most);
      counted = weaker (λ e. further ∙ e) (counted_on was new form place t here.counted code c.noted-in-Some.ensures.emits c.noted-in-Some.ensures.forms);
      emits = λ v k. same (ap (λ (n : ℕ). emitted y false fs ts (joined (map view rest) last) n w d
          (all_joined y (map view_form new) (form_of fs (joined (map view rest) last)) t d k)) further)
          ⨟ subscript_noted y false fs ts (view x) (map view rest) last form was new place t w d c.loop-other.out c.evaluated-form-in-Some.new.out
          c.noted-in-Some.new.out k c.evaluated-form-in-Some.ensures.form here.counted code c.noted-in-Some.ensures.emits c.noted-in-Some.ensures.forms
          ⨟ same (ap (λ (xs : List Code). emitted y false fs ts (joined (map view xs) last) place w d
          (all_joined y (map view_form was) (form_of fs (joined (map view xs) last)) t d k)) (sym is))
          ⨟ here.emits v k;
      lighter = let n = key_weighs left rest x last is in omega (arith, n.1, here.lighter);
    }

pub key-evaluated-form-requires-2 : goal.key-evaluated-form-requires-2
key-evaluated-form-requires-2 t c =
    let none = no_items c.loop-other.left.now c.in_default.ensures.cases in
    let last = view c.args.last.now in
    let w = ap (λ (xs : List Code). weight (joined (map view xs) last)) none in
    let most = c.loop-other.invariant.lighter in (
      omega (arith, c.decreases, w, most),
      (subst (λ (xs : List Code). AllFit (view_layout c.args.layout.now) (plain.At (joined (map view xs) last) plain.End) c.loop-other.place.temporary
          c.loop-other.place.arrays c.loop-other.place.exit) (sym none) c.loop-other.invariant.fit).1.0,
    )

pub key-all_joined-requires-clause-places : goal.key-all_joined-requires-clause-places
key-all_joined-requires-clause-places t c =
    let a = c.loop-other.invariant.fit.1.1.0 in
    let b = c.loop-other.invariant.few in
    omega (arith, a, b)

pub key-all_joined-requires-clause-labels : goal.key-all_joined-requires-clause-labels
key-all_joined-requires-clause-labels t c =
    let a = c.loop-other.invariant.fit.0.1.1 in
    let b = c.loop-other.invariant.exit in
    omega (arith, a, b)

pub key-returns-clause-emits : goal.key-returns-clause-emits
key-returns-clause-emits t c =
    let y = view_layout c.args.layout.now in
    let fs = (keeping_in c.args.keeps.now).forms in
    let ts = (keeping_in c.args.keeps.now).temporaries in
    let t = c.args.at.temporary in
    let w = c.args.at.arrays in
    let d = c.args.at.exit in
    let last = view c.args.last.now in
    let gs = map view_form c.loop-other.forms.items in
    let place = c.loop-other.place.temporary in
    let here = c.loop-other.invariant in
    let code = rw (here.arrays, here.exit) at c.evaluated-form-2.ensures.emits in
    λ v k. c.all_joined.ensures k
    ⨟ same (ap (λ (hs : List Form). all_joined y (map view_form hs) (view_form c.evaluated-form-2.result) t d k) c.deref.ensures.value)
    ⨟ same (ap (λ (f : plain.Form). all_joined y gs f t d k) c.evaluated-form-2.ensures.form)
    ⨟ code (all_joined y gs (form_of fs last) t d k)
    ⨟ same (ap (λ (xs : List Code). emitted y false fs ts (joined (map view xs) last) place w d
    (all_joined y gs (form_of fs (joined (map view xs) last)) t d k)) (no_items c.loop-other.left.now c.in_default.ensures.cases))
    ⨟ here.emits v k

-- operands

pub all_operands-returns-in_default-clause-forms : goal.all_operands-returns-in_default-clause-forms
all_operands-returns-in_default-clause-forms t c = inr (no_form (keeping_in c.args.keeps.now).forms (map view_form c.args.forms.now.items) c.args.operands.now
    c.in_default.ensures.cases)

pub all_operands-returns-in_default-clause-emits : goal.all_operands-returns-in_default-clause-emits
all_operands-returns-in_default-clause-emits t c = none_emitted (view_layout c.args.layout.now) (keeping_in c.args.keeps.now).forms (keeping_in c.args.keeps.now).temporaries c.args.operands.now
    c.args.at.temporary c.args.at.arrays c.args.at.exit c.args.out.now c.in_default.ensures.cases

pub all_operands-evaluated-form-requires : goal.all_operands-evaluated-form-requires
all_operands-evaluated-form-requires t c =
    let e = next_operand c.args.operands.now c.in-Some.rest.now c.in-Some.operand.now _ c.in-Some.ensures.cases.0 c.in-Code.is in
    let fit = subst (λ (x : Codes). AllFit (view_layout c.args.layout.now) x c.args.at.temporary c.args.at.arrays c.args.at.exit) (sym e) c.requires in
    let w = ap weights e in
    (omega (arith, w, c.decreases), fit.1.0)

pub all_operands-next-requires : goal.all_operands-next-requires
all_operands-next-requires t c =
    let e = next_operand c.args.operands.now c.in-Some.rest.now c.in-Some.operand.now _ c.in-Some.ensures.cases.0 c.in-Code.is in
    let fit = subst (λ (x : Codes). AllFit (view_layout c.args.layout.now) x c.args.at.temporary c.args.at.arrays c.args.at.exit) (sym e) c.requires in
    fit.0

pub all_operands-all_operands-requires : goal.all_operands-all_operands-requires
all_operands-all_operands-requires t c =
    let e = next_operand c.args.operands.now c.in-Some.rest.now c.in-Some.operand.now _ c.in-Some.ensures.cases.0 c.in-Code.is in
    let fit = subst (λ (x : Codes). AllFit (view_layout c.args.layout.now) x c.args.at.temporary c.args.at.arrays c.args.at.exit) (sym e) c.requires in
    let w = ap weights e in
    (omega (arith, w, c.decreases), rw c.next.ensures fit.1.1)

pub all_operands-all_operands-requires-in-Constant : goal.all_operands-all_operands-requires-in-Constant
all_operands-all_operands-requires-in-Constant t c =
    let e = next_operand c.args.operands.now c.in-Some.rest.now c.in-Some.operand.now _ c.in-Some.ensures.cases.0 c.in-Constant.is in
    let fit = subst (λ (x : Codes). AllFit (view_layout c.args.layout.now) x c.args.at.temporary c.args.at.arrays c.args.at.exit) (sym e) c.requires in
    let w = ap weights e in
    (omega (arith, w, c.decreases), fit)

pub all_operands-array_made-requires : goal.all_operands-array_made-requires
all_operands-array_made-requires t c =
    let e = next_operand c.args.operands.now c.in-Some.rest.now c.in-Some.operand.now _ c.in-Some.ensures.cases.0 c.in-Fresh.is in
    let fit = subst (λ (x : Codes). AllFit (view_layout c.args.layout.now) x c.args.at.temporary c.args.at.arrays c.args.at.exit) (sym e) c.requires in
    let a = fit.0.1.0 in
    omega (arith, a)

pub all_operands-after_array-requires : goal.all_operands-after_array-requires
all_operands-after_array-requires t c =
    let e = next_operand c.args.operands.now c.in-Some.rest.now c.in-Some.operand.now _ c.in-Some.ensures.cases.0 c.in-Fresh.is in
    let fit = subst (λ (x : Codes). AllFit (view_layout c.args.layout.now) x c.args.at.temporary c.args.at.arrays c.args.at.exit) (sym e) c.requires in
    fit.0

pub all_operands-all_operands-requires-in-Fresh : goal.all_operands-all_operands-requires-in-Fresh
all_operands-all_operands-requires-in-Fresh t c =
    let e = next_operand c.args.operands.now c.in-Some.rest.now c.in-Some.operand.now _ c.in-Some.ensures.cases.0 c.in-Fresh.is in
    let fit = subst (λ (x : Codes). AllFit (view_layout c.args.layout.now) x c.args.at.temporary c.args.at.arrays c.args.at.exit) (sym e) c.requires in
    let w = ap weights e in
    (omega (arith, w, c.decreases), rw c.after_array.ensures fit.1)

pub all_operands-returns-in-Code-clause-forms : goal.all_operands-returns-in-Code-clause-forms
all_operands-returns-in-Code-clause-forms t c =
    let e = next_operand c.args.operands.now c.in-Some.rest.now c.in-Some.operand.now _ c.in-Some.ensures.cases.0 c.in-Code.is in
    form_added (keeping_in c.args.keeps.now).forms (view c.in-Code.code) (views c.in-Some.rest.now) (views c.args.operands.now) c.evaluated-form.result
    c.args.forms.now.items c.noted.new.forms.items c.all_operands.new.forms.items c.noted.new.out c.all_operands.new.out _ e c.evaluated-form.ensures.form
    c.noted.ensures.forms c.all_operands.ensures.emits c.all_operands.ensures.forms

pub all_operands-returns-in-Code-clause-emits : goal.all_operands-returns-in-Code-clause-emits
all_operands-returns-in-Code-clause-emits t c =
    let e = next_operand c.args.operands.now c.in-Some.rest.now c.in-Some.operand.now _ c.in-Some.ensures.cases.0 c.in-Code.is in
    code_emitted (view_layout c.args.layout.now) (keeping_in c.args.keeps.now).forms (keeping_in c.args.keeps.now).temporaries (view c.in-Code.code)
    (views c.in-Some.rest.now) (views c.args.operands.now) c.args.at.temporary c.args.at.arrays c.args.at.exit c.args.out.now
    c.evaluated-form.new.out c.noted.new.out c.all_operands.new.out e c.evaluated-form.ensures.emits c.noted.ensures.emits
    (rw c.next.ensures at c.all_operands.ensures.emits)

pub all_operands-returns-in-Constant-clause-forms : goal.all_operands-returns-in-Constant-clause-forms
all_operands-returns-in-Constant-clause-forms t c =
    let e = next_operand c.args.operands.now c.in-Some.rest.now c.in-Some.operand.now _ c.in-Some.ensures.cases.0 c.in-Constant.is in
    weaker (λ h. h ∙ ap (λ (x : Codes). map view_form c.args.forms.now.items ++ forms_in (keeping_in c.args.keeps.now).forms x) e)
    c.all_operands-in-Constant.ensures.forms

pub all_operands-returns-in-Constant-clause-emits : goal.all_operands-returns-in-Constant-clause-emits
all_operands-returns-in-Constant-clause-emits t c =
    let e = next_operand c.args.operands.now c.in-Some.rest.now c.in-Some.operand.now _ c.in-Some.ensures.cases.0 c.in-Constant.is in
    fixed_emitted (view_layout c.args.layout.now) (keeping_in c.args.keeps.now).forms (keeping_in c.args.keeps.now).temporaries _ (views
    c.in-Some.rest.now) (views c.args.operands.now) c.args.at.temporary c.args.at.arrays c.args.at.exit c.args.out.now
    c.all_operands-in-Constant.new.out e c.all_operands-in-Constant.ensures.emits

pub all_operands-returns-in-Fresh-clause-forms : goal.all_operands-returns-in-Fresh-clause-forms
all_operands-returns-in-Fresh-clause-forms t c =
    let e = next_operand c.args.operands.now c.in-Some.rest.now c.in-Some.operand.now _ c.in-Some.ensures.cases.0 c.in-Fresh.is in
    weaker (λ h. h ∙ ap (λ (x : Codes). map view_form c.args.forms.now.items ++ forms_in (keeping_in c.args.keeps.now).forms x) e)
    c.all_operands-in-Fresh.ensures.forms

pub all_operands-returns-in-Fresh-clause-emits : goal.all_operands-returns-in-Fresh-clause-emits
all_operands-returns-in-Fresh-clause-emits t c =
    let e = next_operand c.args.operands.now c.in-Some.rest.now c.in-Some.operand.now _ c.in-Some.ensures.cases.0 c.in-Fresh.is in
    fresh_emitted (view_layout c.args.layout.now) (keeping_in c.args.keeps.now).forms (keeping_in c.args.keeps.now).temporaries (views
    c.in-Some.rest.now) (views c.args.operands.now) c.args.at.temporary c.args.at.arrays c.args.at.exit c.args.out.now c.array_made.new.out
    c.all_operands-in-Fresh.new.out e c.array_made.ensures (rw c.after_array.ensures at c.all_operands-in-Fresh.ensures.emits)

pub all_operands-returns-in-Code-clause-few : goal.all_operands-returns-in-Code-clause-few
all_operands-returns-in-Code-clause-few t c =
    let n = ap count_of (next_operand c.args.operands.now c.in-Some.rest.now c.in-Some.operand.now _ c.in-Some.ensures.cases.0 c.in-Code.is) in
    omega (arith, n, c.noted.ensures.few, c.all_operands.ensures.few)

pub all_operands-returns-in-Constant-clause-few : goal.all_operands-returns-in-Constant-clause-few
all_operands-returns-in-Constant-clause-few t c =
    let n = ap count_of (next_operand c.args.operands.now c.in-Some.rest.now c.in-Some.operand.now _ c.in-Some.ensures.cases.0 c.in-Constant.is) in
    omega (arith, n, c.all_operands-in-Constant.ensures.few)

pub all_operands-returns-in-Fresh-clause-few : goal.all_operands-returns-in-Fresh-clause-few
all_operands-returns-in-Fresh-clause-few t c =
    let n = ap count_of (next_operand c.args.operands.now c.in-Some.rest.now c.in-Some.operand.now _ c.in-Some.ensures.cases.0 c.in-Fresh.is) in
    omega (arith, n, c.all_operands-in-Fresh.ensures.few)

-- expressions with operands

pub anyway-all_operands-requires : goal.anyway-all_operands-requires
anyway-all_operands-requires t c = (omega (arith, c.decreases), c.requires)

pub anyway-operated-requires-clause-places : goal.anyway-operated-requires-clause-places
anyway-operated-requires-clause-places t c =
    let p = all_places (view_layout c.args.layout.now) (views c.args.operands.now) c.args.at.temporary c.args.at.arrays c.args.at.exit c.requires in
    omega (arith, p)

pub anyway-operated-requires-clause-labels : goal.anyway-operated-requires-clause-labels
anyway-operated-requires-clause-labels t c = label_fits c.args.at.temporary c.args.at.arrays c.args.at.exit
    (all_within (view_layout c.args.layout.now) (views c.args.operands.now) c.args.at.temporary c.args.at.arrays c.args.at.exit c.requires)

pub anyway-operated-requires-clause-arrays : goal.anyway-operated-requires-clause-arrays
anyway-operated-requires-clause-arrays t c = arrays_fit (view_layout c.args.layout.now) (views c.args.operands.now) c.args.at.temporary c.args.at.arrays
    c.args.at.exit c.requires

pub anyway-returns : goal.anyway-returns
anyway-returns t c =
    let e = weaker (λ h. ap (map view_form) c.deref.ensures.value ∙ h) (rw c.new-forms.ensures.items at c.all_operands.ensures.forms) in
    anyway_emitted (view_layout c.args.layout.now) (keeping_in c.args.keeps.now).forms (map view_form c.deref.result.now) (keeping_in c.args.keeps.now).temporaries
    c.args.what (views c.args.operands.now) c.args.at.temporary c.args.at.arrays c.args.at.exit c.args.out.now c.all_operands.new.out
    c.operated.new.out e c.all_operands.ensures.emits c.operated.ensures

-- a sum of two sources

pub operation-sum-requires : goal.operation-sum-requires
operation-sum-requires t c =
    let y = view_layout c.args.layout.now in
    let es = views c.args.operands.now in
    let s = view_addition c.in-Some-addition_in.addition in
    let some = sym c.in-Some-addition_in.ensures in
    let fit = operands_fit_inside y c.args.what es s c.args.at.temporary c.args.at.arrays c.args.at.exit some c.requires in (
      omega (arith, c.decreases),
      (addition_fits y c.args.what es s c.args.at.temporary c.args.at.arrays (suc c.args.at.exit) some fit, fit),
    )

pub sum-inner_at-requires : goal.sum-inner_at-requires
sum-inner_at-requires t c = outer_within c.args.at.temporary c.args.at.arrays c.args.at.exit
    (all_within (view_layout c.args.layout.now) (views c.args.operands.now) c.args.at.temporary c.args.at.arrays (suc c.args.at.exit) c.requires.fit)

pub sum-added-requires-clause-place : goal.sum-added-requires-clause-place
sum-added-requires-clause-place t c = place_fits c.args.at.temporary c.args.at.arrays (suc c.args.at.exit)
    (all_within (view_layout c.args.layout.now) (views c.args.operands.now) c.args.at.temporary c.args.at.arrays (suc c.args.at.exit) c.requires.fit)

pub sum-returns : goal.sum-returns
sum-returns t c =
    let slow = rw c.inner_at.ensures at c.anyway.ensures in
    λ k. c.emit_if.ensures _ _ (slow Done _ (c.new-code.ensures _)) (c.added.ensures Done) k ⨟ c.addition_unsure.ensures _

pub operation-returns-in-Some-addition_in-clause-emits : goal.operation-returns-in-Some-addition_in-clause-emits
operation-returns-in-Some-addition_in-clause-emits t c = λ v. sum_emitted (view_layout c.args.layout.now) v (keeping_in c.args.keeps.now).forms
    (keeping_in c.args.keeps.now).temporaries c.args.what (views c.args.operands.now) (view_addition c.in-Some-addition_in.addition) c.args.at.temporary
    c.args.at.arrays c.args.at.exit c.args.out.now c.sum.new.out (sym c.field_in.ensures ∙ c.in_default.is) (sym c.in-Some-addition_in.ensures) c.sum.ensures

pub operation-returns-clause-emits : goal.operation-returns-clause-emits
operation-returns-clause-emits t c = λ v. operation_emitted (view_layout c.args.layout.now) v (keeping_in c.args.keeps.now).forms
    (keeping_in c.args.keeps.now).temporaries c.args.what (views c.args.operands.now) c.args.at.temporary c.args.at.arrays c.args.at.exit c.args.out.now
    c.anyway.new.out (sym c.field_in.ensures ∙ c.in_default.is) (sym c.addition_in.ensures ∙ ap (option_map view_addition) c.in_default-addition_in.is)
    c.anyway.ensures

pub listing-all_operands-requires : goal.listing-all_operands-requires
listing-all_operands-requires t c = (omega (arith, c.decreases), c.requires.1)

pub listing-listed-requires : goal.listing-listed-requires
listing-listed-requires t c =
    let p = all_places (view_layout c.args.layout.now) (views c.args.operands.now) c.args.at.temporary c.args.at.arrays c.args.at.exit c.requires.1 in
    let none = ap length c.new-forms.ensures.items in
    let all = ap length c.deref.ensures.value in
    omega (arith, p, none, all, c.all_operands.ensures.few)

pub call-all_operands-requires : goal.call-all_operands-requires
call-all_operands-requires t c = (omega (arith, c.decreases), c.requires.1.1.1)

pub call-called-requires-clause-function : goal.call-called-requires-clause-function
call-called-requires-clause-function t c = c.requires.1.0

pub call-called-requires-clause-places : goal.call-called-requires-clause-places
call-called-requires-clause-places t c =
    let p = all_places (view_layout c.args.layout.now) (views c.args.operands.now) c.args.at.temporary c.args.at.arrays c.args.at.exit c.requires.1.1.1 in
    omega (arith, p)

pub call-called-requires-clause-made : goal.call-called-requires-clause-made
call-called-requires-clause-made t c = c.requires.1.1.0

pub call-called-requires-clause-fit : goal.call-called-requires-clause-fit
call-called-requires-clause-fit t c = arrays_fit (view_layout c.args.layout.now) (views c.args.operands.now) c.args.at.temporary c.args.at.arrays c.args.at.exit
    c.requires.1.1.1

pub call-called-requires-clause-labels : goal.call-called-requires-clause-labels
call-called-requires-clause-labels t c = label_fits c.args.at.temporary c.args.at.arrays c.args.at.exit
    (all_within (view_layout c.args.layout.now) (views c.args.operands.now) c.args.at.temporary c.args.at.arrays c.args.at.exit c.requires.1.1.1)

pub replacement-all_operands-requires : goal.replacement-all_operands-requires
replacement-all_operands-requires t c = (omega (arith, c.decreases), c.requires.1.0)

pub replacement-replaced-requires-clause-places : goal.replacement-replaced-requires-clause-places
replacement-replaced-requires-clause-places t c =
    let p = all_places (view_layout c.args.layout.now) (views c.args.operands.now) c.args.at.temporary c.args.at.arrays c.args.at.exit c.requires.1.0 in
    omega (arith, p)

pub replacement-replaced-requires-clause-labels : goal.replacement-replaced-requires-clause-labels
replacement-replaced-requires-clause-labels t c = label_fits c.args.at.temporary c.args.at.arrays c.args.at.exit
    (all_within (view_layout c.args.layout.now) (views c.args.operands.now) c.args.at.temporary c.args.at.arrays c.args.at.exit c.requires.1.0)

pub replacement-replaced-requires-clause-arrays : goal.replacement-replaced-requires-clause-arrays
replacement-replaced-requires-clause-arrays t c = arrays_fit (view_layout c.args.layout.now) (views c.args.operands.now) c.args.at.temporary c.args.at.arrays
    c.args.at.exit c.requires.1.0

pub operation-field_read-requires : goal.operation-field_read-requires
operation-field_read-requires t c = operation_place (view_layout c.args.layout.now) c.args.what (views c.args.operands.now) c.args.at.temporary c.args.at.arrays
    c.args.at.exit c.requires

pub operation-returns-in-Some-clause-emits : goal.operation-returns-in-Some-clause-emits
operation-returns-in-Some-clause-emits t c =
    let fits : FitsSigned w64 c.in-Some.number = search rules in
    λ v. field_emitted (view_layout c.args.layout.now) v (keeping_in c.args.keeps.now).forms (keeping_in c.args.keeps.now).temporaries c.args.what
    (views c.args.operands.now) _ c.in-Some.number c.args.at.temporary c.args.at.arrays c.args.at.exit c.args.out.now c.field_read.new.out
    (sym c.field_in.ensures ∙ c.in-Some.is) (to_z-of_z w64 c.in-Some.number fits) c.field_read.ensures.emits

pub listing-returns-clause-emits : goal.listing-returns-clause-emits
listing-returns-clause-emits t c =
    let e = weaker (λ h. ap (map view_form) c.deref.ensures.value ∙ h) (rw c.new-forms.ensures.items at c.all_operands.ensures.forms) in
    λ v. listing_emitted (view_layout c.args.layout.now) v (keeping_in c.args.keeps.now).forms (map view_form c.deref.result.now) (keeping_in c.args.keeps.now).temporaries c.args.what
    (views c.args.operands.now) c.args.at.temporary c.args.at.arrays c.args.at.exit c.args.out.now c.all_operands.new.out c.listed.new.out
    c.requires.0 e c.all_operands.ensures.emits c.listed.ensures

pub call-returns-clause-emits : goal.call-returns-clause-emits
call-returns-clause-emits t c =
    let e = weaker (λ h. ap (map view_form) c.deref.ensures.value ∙ h) (rw c.new-forms.ensures.items at c.all_operands.ensures.forms) in
    λ v. call_emitted (view_layout c.args.layout.now) v (keeping_in c.args.keeps.now).forms (map view_form c.deref.result.now) (keeping_in c.args.keeps.now).temporaries
    c.args.function (views c.args.operands.now) c.args.at.temporary c.args.at.arrays c.args.at.exit c.args.out.now c.all_operands.new.out
    c.called.new.out c.requires.0 e c.all_operands.ensures.emits c.called.ensures

pub replacement-stored-store-requires : goal.replacement-stored-store-requires
replacement-stored-store-requires t c = (omega (arith, c.decreases), (c.requires.1.1, c.requires.0))

pub replacement-returns-clause-emits : goal.replacement-returns-clause-emits
replacement-returns-clause-emits t c =
    let e = weaker (λ h. ap (map view_form) c.deref.ensures.value ∙ h) (rw c.new-forms.ensures.items at c.all_operands.ensures.forms) in
    λ v. replace_emitted (view_layout c.args.layout.now) v (keeping_in c.args.keeps.now).forms (map view_form c.deref.result.now) (keeping_in c.args.keeps.now).temporaries c.args.all
    (views c.args.operands.now) (view c.args.store.now) c.args.at.temporary c.args.at.arrays c.args.at.exit c.args.out.now c.all_operands.new.out
    c.replaced.new.out c.emit_if.new.out e c.all_operands.ensures.emits c.replaced.ensures
    (c.emit_if.ensures _ _ (c.new.ensures Done) (c.stored-store.ensures Done))

-- a comparison

pub comparison-evaluated-first-requires : goal.comparison-evaluated-first-requires
comparison-evaluated-first-requires t c = (omega (arith, c.decreases), c.requires.1.0)

pub comparison-next-requires : goal.comparison-next-requires
comparison-next-requires t c = c.requires.0

pub comparison-evaluated-second-requires : goal.comparison-evaluated-second-requires
comparison-evaluated-second-requires t c = (omega (arith, c.decreases), rw c.next.ensures c.requires.1.1)

pub comparison-compared-requires-clause-places : goal.comparison-compared-requires-clause-places
comparison-compared-requires-clause-places t c = next_fits c.args.at.temporary c.args.at.arrays c.args.at.exit c.requires.0

pub comparison-compared-requires-clause-labels : goal.comparison-compared-requires-clause-labels
comparison-compared-requires-clause-labels t c = label_fits c.args.at.temporary c.args.at.arrays c.args.at.exit c.requires.0

pub comparison-immediately_compared-requires-clause-places : goal.comparison-immediately_compared-requires-clause-places
comparison-immediately_compared-requires-clause-places t c = next_fits c.args.at.temporary c.args.at.arrays c.args.at.exit c.requires.0

pub comparison-immediately_compared-requires-clause-operand : goal.comparison-immediately_compared-requires-clause-operand
comparison-immediately_compared-requires-clause-operand t c =
    immediate_fits (view_layout c.args.layout.now) (is_value (view_form c.evaluated-first.result)) (view c.args.right.now) (view_immediate c.in-Some.operand)
    (suc c.args.at.temporary) c.args.at.arrays c.args.at.exit
    (ap (λ v. immediate_in v (view c.args.right.now)) (sym c.is_value.ensures) ∙ sym c.immediate_in.ensures ∙ ap (option_map view_immediate) c.in-Some.is)
    c.requires.1.1

pub comparison-returns-in-Some-clause-emits : goal.comparison-returns-in-Some-clause-emits
comparison-returns-in-Some-clause-emits t c = λ v. immediate_emitted (view_layout c.args.layout.now) v (keeping_in c.args.keeps.now).forms (keeping_in c.args.keeps.now).temporaries c.args.op
    (view c.args.left.now) (view c.args.right.now) (view_form c.evaluated-first.result) (view_immediate c.in-Some.operand) c.args.at.temporary
    c.args.at.arrays c.args.at.exit c.args.out.now c.evaluated-first.new.out c.immediately_compared.new.out c.evaluated-first.ensures.form
    (ap (λ v. immediate_in v (view c.args.right.now)) (sym c.is_value.ensures) ∙ sym c.immediate_in.ensures ∙ ap (option_map view_immediate) c.in-Some.is)
    c.evaluated-first.ensures.emits c.immediately_compared.ensures.emits

pub comparison-returns-clause-emits : goal.comparison-returns-clause-emits
comparison-returns-clause-emits t c = λ v. comparison_emitted (view_layout c.args.layout.now) v (keeping_in c.args.keeps.now).forms (keeping_in c.args.keeps.now).temporaries c.args.op
    (view c.args.left.now) (view c.args.right.now) (view_form c.evaluated-first.result) (view_form c.evaluated-second.result) c.args.at.temporary
    c.args.at.arrays c.args.at.exit c.args.out.now c.evaluated-first.new.out c.evaluated-second.new.out c.compared.new.out
    c.evaluated-first.ensures.form c.evaluated-second.ensures.form
    (ap (λ v. immediate_in v (view c.args.right.now)) (sym c.is_value.ensures) ∙ sym c.immediate_in.ensures ∙ ap (option_map view_immediate) c.in_default.is)
    c.evaluated-first.ensures.emits (rw c.next.ensures at c.evaluated-second.ensures.emits) c.compared.ensures

-- texts that are stored

pub stored-text_kept-requires : goal.stored-text_kept-requires
stored-text_kept-requires t c = next_fits c.args.at.temporary c.args.at.arrays c.args.at.exit c.requires.within

pub stored-overflow_add-entry : goal.stored-overflow_add-entry
stored-overflow_add-entry t c =
    let a = c.requires.within.0 in
    omega (arith, a)

pub stored-text_let_go-requires : goal.stored-text_let_go-requires
stored-text_let_go-requires t c = c.requires.within.0

pub stored-stored_at-requires : goal.stored-stored_at-requires
stored-stored_at-requires t c = c.requires.within

pub stored-evaluated-form-requires : goal.stored-evaluated-form-requires
stored-evaluated-form-requires t c = (omega (arith, c.decreases), rw c.stored_at.ensures c.requires.fit)

pub stored-returns : goal.stored-returns
stored-returns t c =
    let n : c.args.at.temporary + 1 ≡ suc c.args.at.temporary = omega arith in
    λ k. stored_emitted (view_layout c.args.layout.now) (keeping_in c.args.keeps.now).forms (keeping_in c.args.keeps.now).temporaries c.args.primitive
    (view c.args.store.now) (view_form c.evaluated-form.result) c.args.at.temporary (c.args.at.temporary + 1) c.args.at.arrays c.args.at.exit c.new-code.result
    c.text_kept.new.out c.evaluated-form.new.out c.text_let_go.new.out n c.evaluated-form.ensures.form c.text_kept.ensures
    (rw c.stored_at.ensures at c.evaluated-form.ensures.emits) c.text_let_go.ensures k _ (c.new-code.ensures _)

pub line_into-asked-requires-clause-places : goal.line_into-asked-requires-clause-places
line_into-asked-requires-clause-places t c = next_fits c.args.at.temporary c.args.at.arrays c.args.at.exit c.requires.0

pub line_into-asked-requires-clause-labels : goal.line_into-asked-requires-clause-labels
line_into-asked-requires-clause-labels t c = label_fits c.args.at.temporary c.args.at.arrays c.args.at.exit c.requires.0

pub line_into-stored-store-requires : goal.line_into-stored-store-requires
line_into-stored-store-requires t c = (omega (arith, c.decreases), (c.requires.1, c.requires.0))

pub line_into-line_stored-requires : goal.line_into-line_stored-requires
line_into-line_stored-requires t c = place_fits c.args.at.temporary c.args.at.arrays c.args.at.exit c.requires.0

pub line_into-returns-clause-emits : goal.line_into-returns-clause-emits
line_into-returns-clause-emits t c = λ v. line_emitted (view_layout c.args.layout.now) v (keeping_in c.args.keeps.now).forms (keeping_in c.args.keeps.now).temporaries (view
    c.args.store.now) c.args.at.temporary c.args.at.arrays c.args.at.exit c.args.out.now c.asked.new.out c.line_stored.new.out c.asked.ensures
    (c.line_stored.ensures _ (c.stored-store.ensures Done))

pub file_line-evaluated-form-requires : goal.file_line-evaluated-form-requires
file_line-evaluated-form-requires t c = (omega (arith, c.decreases), c.requires.1.0)

pub file_line-file_asked-requires : goal.file_line-file_asked-requires
file_line-file_asked-requires t c = place_fits c.args.at.temporary c.args.at.arrays c.args.at.exit c.requires.0

pub file_line-stored-store-requires : goal.file_line-stored-store-requires
file_line-stored-store-requires t c = (omega (arith, c.decreases), (c.requires.1.1, c.requires.0))

pub file_line-line_stored-requires : goal.file_line-line_stored-requires
file_line-line_stored-requires t c = place_fits c.args.at.temporary c.args.at.arrays c.args.at.exit c.requires.0

pub file_line-returns-clause-emits : goal.file_line-returns-clause-emits
file_line-returns-clause-emits t c = λ v. file_line_emitted (view_layout c.args.layout.now) v (keeping_in c.args.keeps.now).forms (keeping_in c.args.keeps.now).temporaries (view
    c.args.file.now) (view c.args.store.now) (view_form c.evaluated-form.result) c.args.at.temporary c.args.at.arrays c.args.at.exit c.args.out.now
    c.evaluated-form.new.out c.file_asked.new.out c.line_stored.new.out c.evaluated-form.ensures.form
    c.evaluated-form.ensures.emits c.file_asked.ensures
    (c.line_stored.ensures _ (c.stored-store.ensures Done))

-- an assignment

pub assignment-evaluated-form-requires : goal.assignment-evaluated-form-requires
assignment-evaluated-form-requires t c = (omega (arith, c.decreases), c.requires.1.1)

pub assignment-slot_set-requires-clause-slot : goal.assignment-slot_set-requires-clause-slot
assignment-slot_set-requires-clause-slot t c = c.requires.1.0

pub assignment-slot_set-requires-clause-places : goal.assignment-slot_set-requires-clause-places
assignment-slot_set-requires-clause-places t c = place_fits c.args.at.temporary c.args.at.arrays c.args.at.exit c.requires.0

pub assignment-returns-clause-emits : goal.assignment-returns-clause-emits
assignment-returns-clause-emits t c = assignment_emitted (view_layout c.args.layout.now) c.args.only (keeping_in c.args.keeps.now).forms (keeping_in c.args.keeps.now).temporaries
    (view_slot c.args.slot) (view c.args.value.now) (view_form c.evaluated-form.result) c.args.at.temporary c.args.at.arrays c.args.at.exit
    c.args.out.now c.evaluated-form.new.out c.slot_set.new.out c.evaluated-form.ensures.form c.evaluated-form.ensures.emits
    c.slot_set.ensures

-- a choice

pub branch-inner_at-inner-requires : goal.branch-inner_at-inner-requires
branch-inner_at-inner-requires t c = c.requires.within

pub branch-evaluated-form-requires : goal.branch-evaluated-form-requires
branch-evaluated-form-requires t c = (omega (arith, c.decreases), rw c.inner_at-inner.ensures c.requires.fit)

pub branch-converted-requires-clause-places : goal.branch-converted-requires-clause-places
branch-converted-requires-clause-places t c = place_fits c.args.at.temporary c.args.at.arrays c.args.at.exit c.requires.within

pub branch-converted-requires-clause-labels : goal.branch-converted-requires-clause-labels
branch-converted-requires-clause-labels t c = rw c.inner_at-inner.ensures (inner_fits c.args.at.temporary c.args.at.arrays c.args.at.exit c.requires.within)

pub branch-returns : goal.branch-returns
branch-returns t c = λ k. branch_emitted (view_layout c.args.layout.now) (keeping_in c.args.keeps.now).forms (keeping_in c.args.keeps.now).temporaries c.args.sort (view
    c.args.code.now) (view_form c.evaluated-form.result) c.args.at.temporary c.args.at.arrays c.args.at.exit c.new-list.result c.evaluated-form.new.out
    c.converted.new.out c.evaluated-form.ensures.form (rw c.inner_at-inner.ensures at c.evaluated-form.ensures.emits)
    (rw c.inner_at-inner.ensures at c.converted.ensures) k _ (c.new-list.ensures _)

pub choice-evaluated-form-requires : goal.choice-evaluated-form-requires
choice-evaluated-form-requires t c = (omega (arith, c.decreases), c.requires.1.0)

pub choice-truth-requires : goal.choice-truth-requires
choice-truth-requires t c = place_fits c.args.at.temporary c.args.at.arrays c.args.at.exit c.requires.0

pub choice-branch-yes-requires : goal.choice-branch-yes-requires
choice-branch-yes-requires t c = (omega (arith, c.decreases), (c.requires.1.1.0, c.requires.0))

pub choice-branch-no-requires : goal.choice-branch-no-requires
choice-branch-no-requires t c = (omega (arith, c.decreases), (c.requires.1.1.1, c.requires.0))

pub choice-returns-clause-emits : goal.choice-returns-clause-emits
choice-returns-clause-emits t c = λ v. choice_emitted (view_layout c.args.layout.now) v (keeping_in c.args.keeps.now).forms (keeping_in c.args.keeps.now).temporaries c.args.sort (view
    c.args.test.now) (view c.args.yes.now) (view c.args.no.now) (view_form c.evaluated-form.result) c.args.at.temporary c.args.at.arrays c.args.at.exit
    c.args.out.now c.evaluated-form.new.out c.truth.new.out c.emit_if.new.out c.evaluated-form.ensures.form c.evaluated-form.ensures.emits
    c.truth.ensures
    (c.emit_if.ensures _ _ (c.branch-yes.ensures Done)
    (c.branch-no.ensures Done))

-- one after the other

pub sequence-evaluated-form-requires : goal.sequence-evaluated-form-requires
sequence-evaluated-form-requires t c = (omega (arith, c.decreases), c.requires.1.0)

pub sequence-left_over-requires : goal.sequence-left_over-requires
sequence-left_over-requires t c = place_fits c.args.at.temporary c.args.at.arrays c.args.at.exit c.requires.0

pub sequence-evaluated-answer-requires : goal.sequence-evaluated-answer-requires
sequence-evaluated-answer-requires t c = (omega (arith, c.decreases), c.requires.1.1)

pub sequence-sequence_closed-requires : goal.sequence-sequence_closed-requires
sequence-sequence_closed-requires t c = place_fits c.args.at.temporary c.args.at.arrays c.args.at.exit c.requires.0

pub sequence-returns-clause-form : goal.sequence-returns-clause-form
sequence-returns-clause-form t c = c.evaluated-answer.ensures.form

pub sequence-returns-clause-emits : goal.sequence-returns-clause-emits
sequence-returns-clause-emits t c = sequence_emitted (view_layout c.args.layout.now) c.args.only (keeping_in c.args.keeps.now).forms
    (keeping_in c.args.keeps.now).temporaries (view c.args.first.now) (view c.args.second.now) (view_form c.evaluated-form.result) (view_form c.evaluated-answer.result)
    c.args.at.temporary c.args.at.arrays c.args.at.exit c.args.out.now c.evaluated-form.new.out c.left_over.new.out
    c.evaluated-answer.new.out c.sequence_closed.new.out c.evaluated-form.ensures.form c.evaluated-answer.ensures.form
    c.evaluated-form.ensures.emits c.left_over.ensures c.evaluated-answer.ensures.emits c.sequence_closed.ensures

-- what is kept

pub keeping-evaluated-held-requires : goal.keeping-evaluated-held-requires
keeping-evaluated-held-requires t c = (omega (arith, c.decreases), c.requires.1.0)

pub keeping-next-requires : goal.keeping-next-requires
keeping-next-requires t c = c.requires.0

pub keeping-evaluated-form-requires : goal.keeping-evaluated-form-requires
keeping-evaluated-form-requires t c = (omega (arith, c.decreases), rw c.next.ensures c.requires.1.1)

pub keeping-keeping_closed-requires : goal.keeping-keeping_closed-requires
keeping-keeping_closed-requires t c = next_fits c.args.at.temporary c.args.at.arrays c.args.at.exit c.requires.0

pub keeping-returns-clause-form : goal.keeping-returns-clause-form
keeping-returns-clause-form t c = kept_form (keeping_in c.args.keeps.now).forms (view c.args.value.now) (view c.args.rest.now) (view_form c.evaluated-held.result)
    (view_form c.evaluated-form.result) c.evaluated-held.ensures.form c.evaluated-form.ensures.form

pub keeping-returns-clause-emits : goal.keeping-returns-clause-emits
keeping-returns-clause-emits t c = keeping_emitted (view_layout c.args.layout.now) c.args.only (keeping_in c.args.keeps.now).forms
    (keeping_in c.args.keeps.now).temporaries (view c.args.value.now) (view c.args.rest.now) (view_form c.evaluated-held.result)
    (view_form c.evaluated-form.result) c.args.at.temporary c.args.at.arrays c.args.at.exit c.args.out.now c.evaluated-held.new.out
    c.evaluated-form.new.out c.keeping_closed.new.out c.evaluated-held.ensures.form c.evaluated-form.ensures.form c.evaluated-held.ensures.emits
    (rw c.next.ensures at c.evaluated-form.ensures.emits) c.keeping_closed.ensures
