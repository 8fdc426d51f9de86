use Rattle.lower_pieces.proofs.handles.copied_if_any.Goals as goal

pub returns : goal.returns
returns c = λ k w h. (rw c.row_call.ensures at c.when_all.ensures) k w (c.emit_all.ensures _ w h)
