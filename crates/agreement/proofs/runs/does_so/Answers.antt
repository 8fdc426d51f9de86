use Rattle.agreement.proofs.RunsLemmas.Agreeing
use Rattle.agreement.proofs.runs.does_so.Goals as goal

pub returns : goal.returns
returns c = Agreeing.does_so
