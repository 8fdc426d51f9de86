use Rattle.lower_expressions.specs.View.{view_layout}
use Rattle.lower_pieces.proofs.Appended.{◌⨟◌, same}
use Rattle.lowering.proofs.Holdings.{operands_sweep}
use Rattle.lowering.proofs.holding.operands_swept.Goals as goal

pub returns : goal.returns
returns c = λ k. c.held_swept-2.ensures k ⨟ c.held_swept.ensures _ ⨟ same (operands_sweep (view_layout c.args.layout.now) k)
