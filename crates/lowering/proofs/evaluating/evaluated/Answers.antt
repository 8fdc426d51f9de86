use Rattle.std.proofs.Common.{ap}
use Rattle.std.proofs.Common.{ap}
use Rattle.mid_program.specs.Mid as plain
use Rattle.mid_program.specs.ViewCode.{view}
use Rattle.lower_model.specs.Emission.{emitted}
use Rattle.lower_pieces.proofs.Appended.{reads_by}
use Rattle.lower_expressions.specs.View.{view_layout}
use Rattle.lowering.proofs.evaluating.evaluated.Goals as goal

pub returns-in-Ok : goal.returns-in-Ok
returns-in-Ok c = λ next whole h.
    let at = c.args.at in
    c.in-Ok.ensures.emits _ whole
    (reads_by (ap (λ (f : plain.Form). emitted (view_layout c.args.layout.now) c.args.only c.args.kept.now.forms c.args.kept.now.temporaries (view c.args.code.now) at.temporary at.arrays at.exit (next f)) c.in-Ok.ensures.form) h)

pub returns-in-Err : goal.returns-in-Err
returns-in-Err c = λ next whole h. c.refuse.ensures _ whole
