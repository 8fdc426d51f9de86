use Rattle.std.proofs.Common.{ap, ◌∙◌}
use Rattle.std.specs.Option.{option_map}
use Rattle.lower_quick.specs.View.{view_holder, view_source}
use Rattle.lower_quick.proofs.Shapes.{going, going_is}
use Rattle.lower_quick.proofs.sum.sum_of.Goals as goal

pub returns-in_err-sum : goal.returns-in_err-sum
returns-in_err-sum c =
    rw c.from_residual.ensures (ap (option_map (going (view_holder c.args.target))) c.in_err-sum.ensures
    ∙ going_is (view_holder c.args.target) c.args.op (option_map view_source c.args.left) (option_map view_source c.args.right))

pub returns : goal.returns
returns c =
    ap (option_map (going (view_holder c.args.target))) c.in_ok-sum.ensures
    ∙ going_is (view_holder c.args.target) c.args.op (option_map view_source c.args.left) (option_map view_source c.args.right)
