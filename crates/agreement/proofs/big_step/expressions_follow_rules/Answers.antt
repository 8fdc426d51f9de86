use Rattle.agreement.proofs.BigStepLemmas.Statements.{value_law, values_law, key_law, place_law, passes_law}
use Rattle.agreement.proofs.big_step.expressions_follow_rules.Goals as goal

pub returns-clause-value : goal.returns-clause-value
returns-clause-value c = value_law

pub returns-clause-list : goal.returns-clause-list
returns-clause-list c = values_law

pub returns-clause-key : goal.returns-clause-key
returns-clause-key c = key_law

pub returns-clause-place : goal.returns-clause-place
returns-clause-place c = place_law

pub returns-clause-arguments : goal.returns-clause-arguments
returns-clause-arguments c = passes_law
