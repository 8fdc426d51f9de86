use Rattle.std.proofs.Common.{sym, ap, subst, ◌∙◌}
use Rattle.std.proofs.lemmas.Result.{IfErr-weaker, on_ok_weaker}
use Rattle.std.specs.Int.{w64}
use Rattle.std.proofs.lemmas.Int.{to_z-of_z}
use Rattle.awk_values.specs.Values.{text_of_value}
use Rattle.host_fields.specs.Calls.{field_set}
use Rattle.host_bytes.specs.Outcomes.{IsStopOf}
use Rattle.host_texts.specs.States.{with_texts}
use Rattle.host_texts.proofs.record.put_field.Goals as goal

pub returns-clause-ok : goal.returns-clause-ok
returns-clause-ok c =
    on_ok_weaker c.set_field-set.result (λ h inner.
    ap (λ v. field_set c.args.number v (with_texts c.args.texts.now inner)) (sym c.in_ok-copied.ensures)
    ∙ ap (λ n. field_set n c.in_ok-copied.field-0 (with_texts c.args.texts.now inner)) (sym (to_z-of_z w64 c.args.number c.ranges.number))
    ∙ h (with_texts c.args.texts.now inner) (sym (c.as_slice.ensures ∙ c.in_ok-ofs.ensures ∙ ap text_of_value c.get.ensures))) c.set_field-set.ensures.ok

pub returns-clause-err : goal.returns-clause-err
returns-clause-err c =
    IfErr-weaker c.set_field-set.result _ _ (λ stop h inner.
    subst (λ v. IsStopOf (field_set c.args.number v (with_texts c.args.texts.now inner)) stop) c.in_ok-copied.ensures
    (subst (λ n. IsStopOf (field_set n c.in_ok-copied.field-0 (with_texts c.args.texts.now inner)) stop) (to_z-of_z w64 c.args.number c.ranges.number)
    (h (with_texts c.args.texts.now inner) (sym (c.as_slice.ensures ∙ c.in_ok-ofs.ensures ∙ ap text_of_value c.get.ensures))))) c.set_field-set.ensures.err
