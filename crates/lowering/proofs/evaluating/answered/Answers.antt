use Rattle.lowering.proofs.evaluating.answered.Goals as goal

pub returns : goal.returns
returns c = rw (c.none-kept.ensures, c.at_first.ensures) at c.evaluated.ensures
