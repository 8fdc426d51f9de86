use Rattle.agreement.proofs.SpotsLemmas.Silent.{silent_run}
use Rattle.agreement.proofs.spots.scripts_without_marks.Goals as goal

pub returns : goal.returns
returns c = silent_run
