use Rattle.agreement.proofs.BigStepLemmas.Items.{items_law, begin_law, end_law}
use Rattle.agreement.proofs.big_step.items_follow_rules.Goals as goal

pub returns-clause-items : goal.returns-clause-items
returns-clause-items c = items_law

pub returns-clause-begin : goal.returns-clause-begin
returns-clause-begin c = begin_law

pub returns-clause-end : goal.returns-clause-end
returns-clause-end c = end_law
