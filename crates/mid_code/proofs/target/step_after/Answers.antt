use Rattle.mid_code.proofs.Boxes.{boxed_makes}
use Rattle.mid_code.proofs.target.step_after.Goals as goal

pub returns : goal.returns
returns c = c.kept_while.ensures _ _ (boxed_makes c.unary_on-number.result c.in_box.result _ c.in_box.ensures (c.unary_on-number.ensures _ c.read.ensures)) c.step_from.ensures
