use Rattle.lower_pieces.proofs.Appended.{◌⨟◌}
use Rattle.lower_expressions.proofs.slots.bare_set.Goals as goal

pub returns : goal.returns
returns c = λ k. (rw (c.number.ensures, c.global_number.ensures) at c.emit_all.ensures) k ⨟ c.text_stored.ensures _ ⨟ c.text_dropped.ensures _
