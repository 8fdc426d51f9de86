use Rattle.lower_pieces.proofs.Appended.{◌⨟◌}
use Rattle.lowering.proofs.summing.numbered_or.Goals as goal

pub returns : goal.returns
returns c = λ inside h k. c.when.ensures inside h k ⨟ (rw c.number.ensures at c.emit_all.ensures) _
