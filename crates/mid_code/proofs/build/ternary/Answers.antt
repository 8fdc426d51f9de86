use Rattle.mid_code.proofs.build.ternary.Goals as goal

pub returns : goal.returns
returns c = c.done.ensures _ c.three.ensures
