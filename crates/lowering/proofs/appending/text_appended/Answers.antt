use Rattle.mid_program.specs.Mid as plain
use Rattle.lower_model.specs.Small.{to_value}
use Rattle.lower_expressions.specs.View.{view_layout}
use Rattle.lowering.specs.Parts.{text_joined}
use Rattle.lowering.proofs.appending.text_appended.Goals as goal

pub returns : goal.returns
returns c = λ k whole h.
    c.text_joined.ensures k whole (c.to_value.ensures _ whole
    (c.answered-form.ensures (λ (f : plain.Form). to_value c.args.layout.now.bases.now f 0 (text_joined (view_layout c.args.layout.now) c.args.name c.args.exit k)) whole h))
