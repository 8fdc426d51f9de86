use Rattle.mid_program.specs.Mid as plain
use Rattle.lower_model.specs.Small.{to_number, to_value}
use Rattle.lower_model.specs.Statements.{element_numbered}
use Rattle.lower_expressions.specs.View.{view_layout}
use Rattle.lower_quick.specs.View.{view_tally}
use Rattle.lowering.specs.Parts.{sum_given}
use Rattle.lowering.proofs.tallying.tallied.Goals as goal

pub returns : goal.returns
returns c = λ k whole h.
    let y = view_layout c.args.layout.now in
    let b = c.args.layout.now.bases.now in
    let q = view_tally c.args.tally in
    c.sum_given.ensures k whole (c.to_number.ensures _ whole (c.element_numbered.ensures _ whole (c.to_value.ensures _ whole
    (c.tally_evaluated-key.ensures (λ (f g : plain.Form). to_value b f 0 (element_numbered y q.read c.args.exit (to_number b g 1 c.args.exit (sum_given y q c.args.exit k)))) whole h))))
