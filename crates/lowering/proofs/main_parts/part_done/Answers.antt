use Rattle.wasm_types.specs.Syntax.{Done}
use Rattle.lowering.proofs.main_parts.part_done.Goals as goal

pub returns : goal.returns
returns c = λ code p. c.block-2.ensures _ (c.part_left.ensures Done _ (c.block.ensures code p _ _ (c.new-inside.ensures _)))
