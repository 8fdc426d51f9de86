use Rattle.lower_pieces.proofs.Appended.{◌⨟◌}
use Rattle.lower_expressions.proofs.walks.lent.Goals as goal

pub returns-in-NumberOrText : goal.returns-in-NumberOrText
returns-in-NumberOrText c = rw c.in-NumberOrText.is (λ k.
    (rw (c.handle-copy.ensures, c.number-number.ensures, c.import_call.ensures) at c.when_all.ensures) k ⨟ (rw c.number-number.ensures at c.number_is.ensures) _)
