use Rattle.wasm_types.specs.Syntax.{Done}
use Rattle.lower_pieces.proofs.Appended.{◌⨟◌}
use Rattle.lower_expressions.proofs.slots.lent_read.Goals as goal

pub returns : goal.returns
returns c = λ k. c.when.ensures _ (c.bare_read.ensures Done _ (c.new-global.ensures _)) k ⨟ (rw c.number.ensures at c.emit_all.ensures) _
