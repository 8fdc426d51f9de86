use Rattle.wasm_types.specs.Syntax.{Done}
use Rattle.lower_pieces.proofs.handles.let_go.Goals as goal

pub returns : goal.returns
returns c = λ k w h. c.when.ensures _ (c.going.ensures Done) k w (c.has_handle.ensures _ w h)
