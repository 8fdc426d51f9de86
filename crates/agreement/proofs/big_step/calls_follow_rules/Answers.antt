use Rattle.agreement.proofs.BigStepLemmas.Statements.{call_law}
use Rattle.agreement.proofs.big_step.calls_follow_rules.Goals as goal

pub returns : goal.returns
returns c = call_law
