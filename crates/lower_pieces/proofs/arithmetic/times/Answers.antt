use Rattle.wasm_types.specs.Syntax.{Done}
use Rattle.lower_pieces.proofs.arithmetic.times.Goals as goal

pub returns : goal.returns
returns c = λ k w h. c.block.ensures _ (c.product_inside.ensures Done) k w h
