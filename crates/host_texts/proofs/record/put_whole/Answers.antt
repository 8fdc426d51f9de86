use Rattle.std.proofs.Common.{sym, ap, subst, ◌∙◌}
use Rattle.std.proofs.lemmas.Result.{IfErr-weaker, on_ok_weaker}
use Rattle.sem_primitives.specs.FieldMeaning.{with_record}
use Rattle.host_bytes.specs.Outcomes.{IsStopOf}
use Rattle.host_texts.specs.States.{with_texts}
use Rattle.host_texts.proofs.record.put_whole.Goals as goal

pub returns-clause-ok : goal.returns-clause-ok
returns-clause-ok c =
    on_ok_weaker c.put_record.result (λ h inner.
    ap (λ x. with_record x (with_texts c.args.texts.now inner)) (sym c.in_ok-text.ensures) ∙ h inner) c.put_record.ensures.ok

pub returns-clause-err : goal.returns-clause-err
returns-clause-err c =
    IfErr-weaker c.put_record.result _ _ (λ stop h inner.
    subst (λ x. IsStopOf (with_record x (with_texts c.args.texts.now inner)) stop) c.in_ok-text.ensures (h inner)) c.put_record.ensures.err
