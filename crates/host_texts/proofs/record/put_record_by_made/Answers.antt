use Rattle.std.proofs.Common.{sym, ap, ◌∙◌}
use Rattle.std.proofs.lemmas.Result.{IfErr-weaker, on_ok_weaker}
use Rattle.awk_values.specs.Values.{text_of_value}
use Rattle.host_texts.specs.States.{with_texts}
use Rattle.host_texts.proofs.record.put_record_by_made.Goals as goal

pub returns-clause-ok : goal.returns-clause-ok
returns-clause-ok c =
    on_ok_weaker c.set_whole-set.result (λ h inner.
    h (with_texts c.args.texts.now inner) (sym (c.as_slice.ensures ∙ c.in_ok-fs.ensures ∙ ap text_of_value c.get.ensures)) (sym (c.as_slice-2.ensures ∙ c.in_ok-rs.ensures ∙ ap text_of_value c.get-2.ensures))) c.set_whole-set.ensures.ok

pub returns-clause-err : goal.returns-clause-err
returns-clause-err c =
    IfErr-weaker c.set_whole-set.result _ _ (λ stop h inner.
    h (with_texts c.args.texts.now inner) (sym (c.as_slice.ensures ∙ c.in_ok-fs.ensures ∙ ap text_of_value c.get.ensures)) (sym (c.as_slice-2.ensures ∙ c.in_ok-rs.ensures ∙ ap text_of_value c.get-2.ensures))) c.set_whole-set.ensures.err
