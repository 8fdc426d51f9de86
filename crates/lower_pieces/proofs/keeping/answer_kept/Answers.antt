use Rattle.wasm_types.specs.Syntax.{Done}
use Rattle.lower_pieces.proofs.keeping.answer_kept.Goals as goal

pub returns : goal.returns
returns c = λ k w h. c.when.ensures _ (c.text_or_left.ensures Done) k w ((rw c.number.ensures at c.emit_all.ensures) _ w h)
