use Rattle.agreement.proofs.RunsLemmas.Telling.{did_tell}
use Rattle.agreement.proofs.runs.did.Goals as goal

pub returns : goal.returns
returns g c = λ t m typed a new job input outside f begins. did_tell m typed a new job input outside g.W.World.is_modelled t f begins
