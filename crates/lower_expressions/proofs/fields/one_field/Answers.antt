use Rattle.lower_expressions.proofs.Views.{no_field}
use Rattle.lower_expressions.proofs.fields.one_field.Goals as goal

pub returns-in_default-3 : goal.returns-in_default-3
returns-in_default-3 c = no_field c.args.operands.now c.in_default.len_at_least
