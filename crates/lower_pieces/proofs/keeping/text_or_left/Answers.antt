use Rattle.std.proofs.Common.{◌≡◌, ◌+◌, suc, arith}
use Rattle.lower_pieces.proofs.keeping.text_or_left.Goals as goal

pub returns : goal.returns
returns c = λ k.
    let out : c.args.exit + 2 ≡ suc (suc c.args.exit) = omega arith in
    (rw (c.number-local.ensures, c.handle.ensures, out) at c.emit_if_all.ensures) k _ ((rw c.number-local.ensures at c.number_is.ensures) _ _ (c.new-code.ensures _))
