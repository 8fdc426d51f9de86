use Rattle.lower_pieces.proofs.converting.nothing_boxed.Goals as goal

pub returns : goal.returns
returns c = λ k.
    (rw (c.row_call.ensures, c.handle.ensures) at c.when_all.ensures) k _ ((rw c.number.ensures at c.number_is.ensures) _ _ (c.new-code.ensures _))
