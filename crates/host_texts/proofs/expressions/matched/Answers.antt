use Rattle.std.proofs.Common.{◌∙◌, ap, sym}
use Rattle.sem_primitives.specs.Eres.{expression_of}
use Rattle.host_texts.proofs.Outcomes.{matches_row_is}
use Rattle.host_texts.proofs.expressions.matched.Goals as goal

pub returns-in-Ok-clause-ok : goal.returns-in-Ok-clause-ok
returns-in-Ok-clause-ok c =
    matches_row_is c.args.value.now c.args.ere.now c.in-Ok.ensures.found.0 c.as_slice.result.now c.in-Ok.found (ap expression_of (sym c.in_ok-matcher.ensures.ok) ∙ c.in-Ok.ensures.found.1)
    (c.as_slice.ensures ∙ c.in_ok-text.ensures) c.in-Ok.ensures.found.2
