use Rattle.agreement.proofs.BigStepLemmas.Runs.{run_law}
use Rattle.agreement.proofs.big_step.runs_follow_rules.Goals as goal

pub returns : goal.returns
returns c = run_law
