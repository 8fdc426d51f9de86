use Rattle.mid_program.specs.Mid as plain
use Rattle.lowering.specs.Parts.{status_left}
use Rattle.lowering.proofs.evaluating.exit_with.Goals as goal

pub returns : goal.returns
returns c = λ k whole h.
    (rw c.number.ensures at c.emit_all.ensures) k whole
    (c.to_number.ensures _ whole (c.answered-form.ensures (λ (f : plain.Form). status_left c.args.layout.now.bases.now f c.args.exit k) whole h))
