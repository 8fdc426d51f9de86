use Rattle.mid_program.specs.Mid as plain
use Rattle.lower_model.specs.Small.{truth}
use Rattle.lowering.proofs.evaluating.tested.Goals as goal

pub returns : goal.returns
returns c = λ k whole h.
    c.truth.ensures k whole (c.answered-form.ensures (λ (f : plain.Form). truth c.args.layout.now.bases.now f 0 k) whole h)
