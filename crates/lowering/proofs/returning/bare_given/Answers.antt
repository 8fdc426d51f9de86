use Rattle.lower_pieces.proofs.Appended.{◌⨟◌}
use Rattle.wasm_types.specs.Syntax.{Done}
use Rattle.lowering.proofs.returning.bare_given.Goals as goal

pub returns : goal.returns
returns c = λ k. c.word_given.ensures k ⨟ c.when.ensures _ (c.text_given.ensures Done _ (c.new-text.ensures _)) _ ⨟ (rw c.number.ensures at c.number_is.ensures) _
