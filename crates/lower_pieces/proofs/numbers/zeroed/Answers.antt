use Rattle.lower_pieces.proofs.numbers.zeroed.Goals as goal

pub returns : goal.returns
returns c = λ k w h. (rw c.number-local.ensures at c.when_all.ensures) k w ((rw c.number-local.ensures at c.number_is.ensures) _ w h)
