use Rattle.agreement.proofs.RunsLemmas.Telling.{did_find}
use Rattle.agreement.proofs.runs.found.Goals as goal

pub returns : goal.returns
returns g c = λ m typed a new job input outside f begins. did_find m typed a new job input outside g.W.World.is_modelled f begins
