use Rattle.std.proofs.Common.{Ok, ap, subst, sym, ◌∙◌}
use Rattle.std.proofs.lemmas.Result.{IfErr-weaker, on_ok_weaker}
use Rattle.sem_primitives.specs.SharedState.{◌>>=◌}
use Rattle.sem_primitives.specs.declared.answers.InputAnswer.TheVariants.{Read}
use Rattle.host_bytes.specs.Outcomes.{IsStopOf}
use Rattle.host_worlds.specs.Givens.{kept_by}
use Rattle.host_worlds.specs.States.{with_input, with_tables}
use Rattle.host_worlds.proofs.Kept.{stop_then}
use Rattle.host_worlds.proofs.main_record.keep.Goals as goal

pub returns-in-Record-clause-ok : goal.returns-in-Record-clause-ok
returns-in-Record-clause-ok c =
    on_ok_weaker c.put_record.result (λ h around inner.
    ap (λ k. kept_by k c.args.text (with_tables c.args.texts.now c.args.input.now around inner)) c.in-Record.is ∙ ap (λ r. r >>= λ i. Ok (i, Read)) (h (with_input c.args.input.now around inner))) c.put_record.ensures.ok

pub returns-in-Record-clause-err : goal.returns-in-Record-clause-err
returns-in-Record-clause-err c =
    IfErr-weaker c.put_record.result _ _ (λ stop h around inner.
    subst (λ k. IsStopOf (kept_by k c.args.text (with_tables c.args.texts.now c.args.input.now around inner)) stop) (sym c.in-Record.is) (stop_then _ (λ i. Ok (i, Read)) stop (h (with_input c.args.input.now around inner)))) c.put_record.ensures.err
