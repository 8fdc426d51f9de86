use Rattle.wasm_types.specs.Syntax.{Done}
use Rattle.lower_pieces.proofs.converting.bare_value.Goals as goal

pub returns : goal.returns
returns c = λ k w h.
    c.emit_if.ensures _ _ (c.nothing_boxed.ensures Done) ((rw c.handle.ensures at c.emit.ensures) Done _ (c.boxed_number.ensures _ _ (c.new-number.ensures _))) k w
    ((rw c.number.ensures at c.emit_all.ensures) _ w h)
