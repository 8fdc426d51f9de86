use Rattle.wasm_types.specs.Syntax.{Done}
use Rattle.lowering.proofs.loops.rounds.Goals as goal

pub returns : goal.returns
returns c = λ inside p. c.block.ensures _ (c.again.ensures inside p Done _ (c.new-code.ensures _))
