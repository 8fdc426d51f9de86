use Rattle.wasm_types.specs.Syntax.{Done}
use Rattle.lower_pieces.proofs.Appended.{◌⨟◌}
use Rattle.lowering.proofs.records.assignment_made.Goals as goal

pub returns : goal.returns
returns c = λ k. c.when.ensures _ (c.pending_code.ensures Done) k ⨟ (rw c.number.ensures at c.number_is.ensures) _
