use Rattle.std.proofs.Common.{ap, ◌∙◌}
use Rattle.lower_model.specs.Emission.{field_at}
use Rattle.lower_expressions.proofs.Views.{do_view}
use Rattle.lower_expressions.proofs.fields.field_at.Goals as goal

pub returns-in-Do : goal.returns-in-Do
returns-in-Do c = c.field_in.ensures ∙ ap field_at (do_view c.args.code.now c.in-Do.operation c.in-Do.operands c.deref.result.now c.in-Do.is c.deref.ensures.value)
