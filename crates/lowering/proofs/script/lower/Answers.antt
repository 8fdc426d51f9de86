use Rattle.std.proofs.lemmas.Result.{IfErr-weaker}
use Rattle.lower_layout.proofs.Refusals.{refused}
use Rattle.lowering.proofs.script.lower.Goals as goal

pub returns-in_err-callees-clause-too_large : goal.returns-in_err-callees-clause-too_large
returns-in_err-callees-clause-too_large c = refused c.from_residual.result c.in_err-callees.field-0.0 _ c.from_residual.ensures.1 c.in_err-callees.ensures.too_large

pub returns-clause-too_large : goal.returns-clause-too_large
returns-clause-too_large c = IfErr-weaker c.module_for.result _ _ (λ e h large small. h large) c.module_for.ensures.too_large
