use Rattle.lower_pieces.proofs.Appended.{◌⨟◌}
use Rattle.wasm_types.specs.Syntax.{Done}
use Rattle.lowering.proofs.routines.left_added.Goals as goal

pub returns : goal.returns
returns c = λ k. c.operands_swept.ensures k ⨟ c.block.ensures _ (c.body_added.ensures Done _ (c.new-inside.ensures _)) _
