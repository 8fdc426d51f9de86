use Rattle.std.proofs.Common.{◌≡◌, ◌+◌, suc, arith}
use Rattle.lower_pieces.proofs.numbers.number_made.Goals as goal

pub returns : goal.returns
returns c = λ k.
    let out : c.args.exit + 2 ≡ suc (suc c.args.exit) = omega arith in
    (rw (c.number-number.ensures, c.handle-handle.ensures, c.row_call.ensures, out) at c.emit_if_all.ensures) k _ ((rw c.number-number.ensures at c.number_is.ensures) _ _ (c.new-code.ensures _))
