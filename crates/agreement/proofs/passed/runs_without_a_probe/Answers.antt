use Rattle.agreement.proofs.PassedLemmas.Passing.{without}
use Rattle.agreement.proofs.passed.runs_without_a_probe.Goals as goal

pub returns : goal.returns
returns c = without
