use Rattle.agreement.proofs.BigStepLemmas.Statements.{plain_law, statement_law, statements_law}
use Rattle.agreement.proofs.big_step.statements_follow_rules.Goals as goal

pub returns-clause-plain : goal.returns-clause-plain
returns-clause-plain c = plain_law

pub returns-clause-one : goal.returns-clause-one
returns-clause-one c = statement_law

pub returns-clause-all : goal.returns-clause-all
returns-clause-all c = statements_law
