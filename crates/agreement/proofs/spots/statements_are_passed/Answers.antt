use Rattle.agreement.proofs.SpotsLemmas.Passing.{script_passes}
use Rattle.agreement.proofs.spots.statements_are_passed.Goals as goal

pub returns : goal.returns
returns c = script_passes
