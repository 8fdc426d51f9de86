use Rattle.wasm_types.specs.Syntax.{Done}
use Rattle.lower_pieces.proofs.Appended.{◌⨟◌}
use Rattle.lower_expressions.proofs.slots.text_stored.Goals as goal

pub returns-in-NumberOrText : goal.returns-in-NumberOrText
returns-in-NumberOrText c = rw c.in-NumberOrText.is (λ k.
    c.when.ensures _ ((rw c.global_handle.ensures at c.handle_stored.ensures) Done _ (c.new-text.ensures _)) k ⨟ (rw c.number.ensures at c.number_is.ensures) _)
