use Rattle.wasm_types.specs.Syntax.{Done}
use Rattle.lower_pieces.proofs.Appended.{◌⨟◌}
use Rattle.lower_expressions.proofs.slots.bare_stored.Goals as goal

pub returns : goal.returns
returns c = λ k.
    c.emit_if.ensures _ _ (c.handle_stored.ensures Done _ (c.new-text.ensures _)) (c.boxed_perhaps.ensures Done _ (c.new-number.ensures _)) k ⨟ (rw c.number.ensures at c.number_is.ensures) _
