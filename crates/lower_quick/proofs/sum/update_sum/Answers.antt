use Rattle.std.proofs.Common.{ap, sym, ◌∙◌}
use Rattle.mid_program.specs.ViewCode.{view}
use Rattle.lower_model.specs.Quick.{update_sum}
use Rattle.lower_quick.specs.View.{view_holder}
use Rattle.lower_quick.proofs.Shapes.{moved_are, no_kept, unmoved_sum_is}
use Rattle.lower_quick.proofs.sum.update_sum.Goals as goal

pub returns-in_err-op : goal.returns-in_err-op
returns-in_err-op c = rw c.from_residual.ensures (no_kept (view_holder c.args.target) (view c.args.kept.now) (view c.args.value.now) c.in_err-op.ensures)

pub returns-then-is_bound : goal.returns-then-is_bound
returns-then-is_bound c =
    rw (c.source_in.ensures, c.source_in-then-is_bound.ensures) at c.sum_of.ensures
    ∙ ap (update_sum (view_holder c.args.target) (view c.args.kept.now)) (moved_are (view c.args.value.now) c.in_ok-op.op (view c.in_ok-op.left.now) (view c.in_ok-op.right.now) c.in_ok-op.ensures (sym c.if-is_bound.ensures))

pub returns-else-is_bound : goal.returns-else-is_bound
returns-else-is_bound c =
    unmoved_sum_is (view_holder c.args.target) (view c.args.kept.now) (view c.args.value.now) c.in_ok-op.op (view c.in_ok-op.left.now) (view c.in_ok-op.right.now) c.in_ok-op.ensures (sym c.if-is_bound.ensures)
