use Rattle.agreement.proofs.PassedLemmas.Passing.{passes}
use Rattle.agreement.proofs.passed.places_are_passed.Goals as goal

pub returns : goal.returns
returns c = passes
