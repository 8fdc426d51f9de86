use Rattle.lower_pieces.proofs.Appended.{chosen, reads_by}
use Rattle.lower_pieces.proofs.emission.emit_if.Goals as goal

pub returns-in-Ok-Ok : goal.returns-in-Ok-Ok
returns-in-Ok-Ok c = λ one other p q k w h. c.put.ensures k w (reads_by (chosen c.in-Ok-Ok.yes c.in-Ok-Ok.no one other (c.in-Ok-Ok.ensures one p) (c.in-Ok-Ok.ensures' other q) k) h)

pub returns-in_default : goal.returns-in_default
returns-in_default c = λ one other p q k w h. c.refuse.ensures k w
