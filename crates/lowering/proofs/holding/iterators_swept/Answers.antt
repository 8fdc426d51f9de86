use Rattle.lower_expressions.specs.View.{view_layout}
use Rattle.lower_pieces.proofs.Appended.{◌⨟◌, same}
use Rattle.lowering.proofs.Holdings.{iterators_sweep}
use Rattle.lowering.proofs.holding.iterators_swept.Goals as goal

pub returns : goal.returns
returns c = λ k.
    let y = view_layout c.args.layout.now in
    c.held_swept.ensures k ⨟ same (iterators_sweep y 0 y.bases.iterators k)
