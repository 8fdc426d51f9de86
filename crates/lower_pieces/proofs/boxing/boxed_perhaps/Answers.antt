use Rattle.lower_pieces.proofs.boxing.boxed_perhaps.Goals as goal

pub returns : goal.returns
returns c = λ k w h. (rw (c.number-local.ensures, c.row_call.ensures, c.row_call-2.ensures) at c.emit_if_all.ensures) k w ((rw c.number-local.ensures at c.number_is.ensures) _ w h)
