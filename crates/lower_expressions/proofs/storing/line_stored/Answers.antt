use Rattle.lower_pieces.proofs.Appended.{◌⨟◌}
use Rattle.lower_expressions.proofs.storing.line_stored.Goals as goal

pub returns : goal.returns
returns c = λ added stored k. c.code_number.ensures k ⨟ c.when.ensures added stored _ ⨟ (rw c.number.ensures at c.number_is.ensures) _
