use Rattle.wasm_types.specs.Syntax.{Done}
use Rattle.lower_pieces.proofs.Appended.{◌⨟◌}
use Rattle.lower_expressions.proofs.pending.number_assigned.Goals as goal

pub returns : goal.returns
returns c = λ k. c.when.ensures _ (c.assigned_code.ensures Done) k ⨟ (rw c.number.ensures at c.number_is.ensures) _
