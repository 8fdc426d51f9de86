use Rattle.std.proofs.Common.{sym, ◌∙◌}
use Rattle.mid_program.specs.ViewCode.{view}
use Rattle.lower_quick.specs.View.{view_holder}
use Rattle.lower_quick.proofs.Shapes.{no_remainder, not_remainder_is, remainder_is}
use Rattle.lower_quick.proofs.remainder.set_remainder.Goals as goal

pub returns-in_err-op : goal.returns-in_err-op
returns-in_err-op c = rw c.from_residual.ensures (no_remainder (view_holder c.args.target) (view c.args.value.now) c.in_err-op.ensures)

pub returns-then-is_modulo : goal.returns-then-is_modulo
returns-then-is_modulo c =
    rw (c.multiple_in.ensures, c.factor_in.ensures) at c.remainder_of.ensures
    ∙ remainder_is (view_holder c.args.target) (view c.args.value.now) c.in_ok-op.op (view c.in_ok-op.left.now) (view c.in_ok-op.right.now) c.in_ok-op.ensures (sym c.if-is_modulo.ensures)

pub returns-else-is_modulo : goal.returns-else-is_modulo
returns-else-is_modulo c = not_remainder_is (view_holder c.args.target) (view c.args.value.now) c.in_ok-op.op (view c.in_ok-op.left.now) (view c.in_ok-op.right.now) c.in_ok-op.ensures (sym c.if-is_modulo.ensures)
