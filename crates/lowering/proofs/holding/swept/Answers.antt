use Rattle.lower_expressions.specs.View.{view_layout}
use Rattle.lower_pieces.proofs.Appended.{◌⨟◌, same}
use Rattle.lowering.proofs.Holdings.{held_swept_all}
use Rattle.lowering.proofs.holding.swept.Goals as goal

pub returns : goal.returns
returns c = λ k. c.held_swept-3.ensures k ⨟ c.held_swept-2.ensures _ ⨟ c.held_swept.ensures _ ⨟ same (held_swept_all (view_layout c.args.layout.now) k)
