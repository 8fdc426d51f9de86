use Rattle.agreement.proofs.SpotsLemmas.Scripts.{run_so}
use Rattle.agreement.proofs.spots.spots_have_places.Goals as goal

pub returns : goal.returns
returns c = run_so
