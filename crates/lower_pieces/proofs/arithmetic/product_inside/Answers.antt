use Rattle.std.proofs.Common.{◌≡◌, ◌+◌, suc, arith}
use Rattle.wasm_types.specs.Syntax.{Done}
use Rattle.lower_pieces.proofs.arithmetic.product_inside.Goals as goal

pub returns : goal.returns
returns c = λ k.
    let out : c.args.exit + 1 ≡ suc c.args.exit = omega arith in
    (rw out at c.any_product.ensures) k _ (c.block.ensures _ (c.near_product.ensures Done) _ _ (c.new-code.ensures _))
