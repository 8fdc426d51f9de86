use Rattle.std.proofs.Common.{ap, ◌∙◌}
use Rattle.mid_program.specs.ViewCode.{view}
use Rattle.lower_model.specs.Quick.{old_source}
use Rattle.lower_quick.proofs.Shapes.{no_old, number_are}
use Rattle.lower_quick.proofs.sum.old_source.Goals as goal

pub returns-in_err-number_of : goal.returns-in_err-number_of
returns-in_err-number_of c = rw c.from_residual.ensures (no_old (view c.args.code.now) c.in_err-number_of.ensures)

pub returns : goal.returns
returns c = c.source_in.ensures ∙ ap old_source (number_are (view c.args.code.now) (view c.in_ok-number_of.field-0.now) c.in_ok-number_of.ensures)
