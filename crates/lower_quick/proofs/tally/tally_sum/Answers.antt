use Rattle.std.proofs.Common.{ap, ◌∙◌}
use Rattle.mid_program.specs.Mid.{Code}
use Rattle.mid_program.specs.ViewCode.{view}
use Rattle.lower_model.specs.Quick.{tally_sum}
use Rattle.lower_quick.proofs.Shapes.{binary_are, no_tally}
use Rattle.lower_quick.proofs.tally.tally_sum.Goals as goal

pub returns-in_err-op : goal.returns-in_err-op
returns-in_err-op c = rw c.from_residual.ensures (no_tally (view c.args.key.now) (view c.args.kept.now) (view c.args.sum.now) (view c.args.last.now) c.in_err-op.ensures)

pub returns : goal.returns
returns c =
    c.tally_by.ensures
    ∙ ap (λ (sum : Code). tally_sum (view c.args.key.now) (view c.args.kept.now) sum (view c.args.last.now)) (binary_are (view c.args.sum.now) c.in_ok-op.op (view c.in_ok-op.left.now) (view c.in_ok-op.right.now) c.in_ok-op.ensures)
