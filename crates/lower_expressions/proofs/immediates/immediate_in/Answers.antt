use Rattle.std.proofs.Common.{ap, ◌∙◌}
use Rattle.lower_model.specs.Emission.{immediate_field, immediate_in}
use Rattle.lower_expressions.proofs.Views.{do_view}
use Rattle.lower_expressions.proofs.immediates.immediate_in.Goals as goal

pub returns-in-Do : goal.returns-in-Do
returns-in-Do c =
    c.immediate_field.ensures ∙ ap immediate_field c.field_in.ensures
    ∙ ap (immediate_in c.args.valued) (do_view c.args.code.now c.in-Do.operation c.in-Do.operands c.deref.result.now c.in-Do.is c.deref.ensures.value)
