use Rattle.lowering.proofs.quick.unsure.Goals as goal

pub returns : goal.returns
returns c = rw c.name_read.ensures at c.emit_all.ensures
