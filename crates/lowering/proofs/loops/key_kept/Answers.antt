use Rattle.mid_program.specs.ViewCode.{view}
use Rattle.lower_model.specs.Emission.{dropped}
use Rattle.lower_expressions.specs.Keeping.{Keeping}
use Rattle.lower_expressions.specs.View.{view_layout}
use Rattle.lowering.proofs.loops.key_kept.Goals as goal

pub returns : goal.returns
returns c = λ k whole h.
    c.dropped.ensures k whole
    (c.kept_first-kept.ensures (λ (m : Keeping). dropped (view_layout c.args.layout.now) m.forms m.temporaries (view c.args.store.now) 1 0 c.args.exit k) whole h)
