use Rattle.std.proofs.Common.{ap, ◌∙◌}
use Rattle.mid_program.specs.ViewCode.{view}
use Rattle.lower_model.specs.Quick.{set_sum}
use Rattle.lower_quick.specs.View.{view_holder}
use Rattle.lower_quick.proofs.Shapes.{binary_are, no_set}
use Rattle.lower_quick.proofs.sum.set_sum.Goals as goal

pub returns-in_err-op : goal.returns-in_err-op
returns-in_err-op c = rw c.from_residual.ensures (no_set (view_holder c.args.target) (view c.args.value.now) c.in_err-op.ensures)

pub returns : goal.returns
returns c =
    rw (c.source_in.ensures, c.source_in-2.ensures) at c.sum_of.ensures
    ∙ ap (set_sum (view_holder c.args.target)) (binary_are (view c.args.value.now) c.in_ok-op.op (view c.in_ok-op.left.now) (view c.in_ok-op.right.now) c.in_ok-op.ensures)
