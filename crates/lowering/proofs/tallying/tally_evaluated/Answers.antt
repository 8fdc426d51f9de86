use Rattle.std.proofs.Common.{false, [], ◌∷◌}
use Rattle.mid_program.specs.Mid as plain
use Rattle.mid_program.specs.Mid.{form_of}
use Rattle.mid_program.specs.ViewCode.{view}
use Rattle.lower_model.specs.Emission.{emitted}
use Rattle.lower_pieces.specs.Forms.{view_form}
use Rattle.lower_expressions.specs.Keeping.{Keeping}
use Rattle.lower_expressions.specs.View.{view_layout}
use Rattle.lowering.proofs.tallying.tally_evaluated.Goals as goal

pub returns : goal.returns
returns c = λ next whole h.
    let y = view_layout c.args.layout.now in
    let e = view c.args.tally.added.now in
    let key = view_form c.answered-key.result in
    c.evaluated-added.ensures (next key) whole
    (c.kept_first-kept.ensures (λ (m : Keeping). emitted y false m.forms m.temporaries e 1 0 c.args.exit (next key (form_of m.forms e))) whole
    (c.answered-key.ensures (λ (f : plain.Form). emitted y false (f ∷ []) (0 ∷ []) e 1 0 c.args.exit (next f (form_of (f ∷ []) e))) whole h))
