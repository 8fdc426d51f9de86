use Rattle.mid_program.specs.Mid as plain
use Rattle.mid_program.specs.ViewCode.{view}
use Rattle.lower_model.specs.Emission.{left_over}
use Rattle.lower_expressions.specs.View.{view_layout}
use Rattle.lowering.proofs.evaluating.dropped.Goals as goal

pub returns : goal.returns
returns c = λ k whole h.
    c.left_over.ensures k whole
    (c.evaluated-form.ensures (λ (f : plain.Form). left_over (view_layout c.args.layout.now) (view c.args.code.now) f c.args.at.temporary k) whole h)
