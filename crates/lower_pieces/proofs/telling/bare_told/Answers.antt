use Rattle.wasm_types.specs.Syntax.{Done}
use Rattle.lower_pieces.proofs.telling.bare_told.Goals as goal

pub returns : goal.returns
returns c = λ k w h.
    c.emit_if.ensures _ _ (c.truth_put-some.ensures Done) (c.zeroed.ensures Done _ (c.new-none.ensures _)) k w ((rw c.number.ensures at c.number_is.ensures) _ w h)
