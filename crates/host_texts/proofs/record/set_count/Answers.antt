use Rattle.std.proofs.Common.{sym, ap, subst, ◌∙◌}
use Rattle.std.proofs.lemmas.Result.{IfErr-weaker, on_ok_weaker}
use Rattle.std.specs.Int.{w64}
use Rattle.std.proofs.lemmas.Int.{to_z-of_z}
use Rattle.awk_values.specs.Values.{text_of_value}
use Rattle.host_fields.specs.Calls.{count_set}
use Rattle.host_bytes.specs.Outcomes.{IsStopOf}
use Rattle.host_texts.specs.States.{with_texts}
use Rattle.host_texts.proofs.record.set_count.Goals as goal

pub returns-clause-ok : goal.returns-clause-ok
returns-clause-ok c =
    on_ok_weaker c.set_count-set.result (λ h inner.
    ap (λ n. count_set n (with_texts c.args.texts.now inner)) (sym (to_z-of_z w64 c.args.count c.ranges.count))
    ∙ h (with_texts c.args.texts.now inner) (sym (c.as_slice.ensures ∙ c.in_ok-ofs.ensures ∙ ap text_of_value c.get.ensures))) c.set_count-set.ensures.ok

pub returns-clause-err : goal.returns-clause-err
returns-clause-err c =
    IfErr-weaker c.set_count-set.result _ _ (λ stop h inner.
    subst (λ n. IsStopOf (count_set n (with_texts c.args.texts.now inner)) stop) (to_z-of_z w64 c.args.count c.ranges.count)
    (h (with_texts c.args.texts.now inner) (sym (c.as_slice.ensures ∙ c.in_ok-ofs.ensures ∙ ap text_of_value c.get.ensures)))) c.set_count-set.ensures.err
