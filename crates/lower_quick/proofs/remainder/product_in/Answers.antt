use Rattle.std.proofs.Common.{sym, ◌∙◌}
use Rattle.mid_program.specs.ViewCode.{view}
use Rattle.lower_quick.proofs.Shapes.{no_product, not_product_is, product_is}
use Rattle.lower_quick.proofs.remainder.product_in.Goals as goal

pub returns-in_err-op : goal.returns-in_err-op
returns-in_err-op c = rw c.from_residual.ensures (no_product (view c.args.code.now) c.in_err-op.ensures)

pub returns-then-is_times : goal.returns-then-is_times
returns-then-is_times c =
    rw (c.name_in.ensures, c.factor_in.ensures) at c.product_of.ensures
    ∙ product_is (view c.args.code.now) c.in_ok-op.op (view c.in_ok-op.left.now) (view c.in_ok-op.right.now) c.in_ok-op.ensures (sym c.if-is_times.ensures)

pub returns-else-is_times : goal.returns-else-is_times
returns-else-is_times c = not_product_is (view c.args.code.now) c.in_ok-op.op (view c.in_ok-op.left.now) (view c.in_ok-op.right.now) c.in_ok-op.ensures (sym c.if-is_times.ensures)
