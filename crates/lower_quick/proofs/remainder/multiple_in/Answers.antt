use Rattle.std.proofs.Common.{◌∙◌}
use Rattle.mid_program.specs.ViewCode.{view}
use Rattle.lower_quick.specs.View.{view_holder}
use Rattle.lower_quick.proofs.Shapes.{name_multiple, product_multiple}
use Rattle.lower_quick.proofs.remainder.multiple_in.Goals as goal

pub returns-in-Some : goal.returns-in-Some
returns-in-Some c = name_multiple (view c.args.code.now) (view_holder c.in-Some.name) c.in-Some.ensures

pub returns-in-None : goal.returns-in-None
returns-in-None c = c.product_in.ensures ∙ product_multiple (view c.args.code.now) c.in-None.ensures
