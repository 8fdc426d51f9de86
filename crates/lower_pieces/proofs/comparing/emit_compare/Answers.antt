use Rattle.std.proofs.Common.{◌≡◌, ◌+◌, suc, arith}
use Rattle.wasm_types.specs.Syntax.{Done}
use Rattle.lower_pieces.proofs.comparing.emit_compare.Goals as goal

pub returns : goal.returns
returns c = λ k w h.
    let out : c.args.exit + 1 ≡ suc c.args.exit = omega arith in
    c.emit_if.ensures _ _ ((rw out at c.values_compared.ensures) Done _ (c.new-values.ensures _)) (c.numbers_compared.ensures Done _ (c.new-numbers.ensures _)) k w (c.texts_beside.ensures _ w h)
