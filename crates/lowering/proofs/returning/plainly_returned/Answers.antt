use Rattle.mid_program.specs.Mid as plain
use Rattle.lower_model.specs.Statements.{answer_given}
use Rattle.lower_expressions.specs.View.{view_layout}
use Rattle.lowering.proofs.returning.plainly_returned.Goals as goal

pub returns : goal.returns
returns c = λ k whole h.
    c.answer_given.ensures k whole (c.answered-form.ensures (λ (f : plain.Form). answer_given (view_layout c.args.layout.now) f c.args.exit k) whole h)
