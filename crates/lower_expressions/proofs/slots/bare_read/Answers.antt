use Rattle.lower_pieces.proofs.Appended.{◌⨟◌}
use Rattle.lower_expressions.proofs.slots.bare_read.Goals as goal

pub returns : goal.returns
returns c = λ k. (rw (c.global_handle-global.ensures, c.handle.ensures, c.row_call.ensures) at c.when_all.ensures) k ⨟ (rw (c.global_number.ensures, c.number.ensures) at c.emit_all.ensures) _
