use Rattle.std.proofs.Common.{◌∙◌, ap, sym}
use Rattle.sem_primitives.specs.Eres.{expression_of}
use Rattle.host_texts.proofs.Outcomes.{sub_is, sub_stops}
use Rattle.host_texts.specs.States.{with_texts}
use Rattle.host_texts.proofs.change.substituted.Goals as goal

pub returns-in-Ok-clause-ok : goal.returns-in-Ok-clause-ok
returns-in-Ok-clause-ok c = λ inner.
    sub_is c.args.ere.now c.args.by.now c.args.target.now c.args.all c.in-Ok.ensures.ok.0 c.as_slice.result.now c.bytes.result.now _ _ (with_texts c.args.texts.now inner)
    (ap expression_of (sym c.in_ok-matcher.ensures.ok) ∙ c.in-Ok.ensures.ok.1) (c.as_slice.ensures ∙ c.in_ok-by.ensures) (c.bytes.ensures ∙ c.in_ok-target.ensures) c.in-Ok.ensures.ok.2

pub returns-clause-err : goal.returns-clause-err
returns-clause-err c = λ inner.
    sub_stops c.args.ere.now c.args.by.now c.args.target.now c.args.all c.in-Err.ensures.err.0 c.as_slice.result.now c.bytes.result.now c.in-Err.stop inner
    (ap expression_of (sym c.in_ok-matcher.ensures.ok) ∙ c.in-Err.ensures.err.1) (c.as_slice.ensures ∙ c.in_ok-by.ensures) (c.bytes.ensures ∙ c.in_ok-target.ensures) c.in-Err.ensures.err.2
