use Rattle.agreement.proofs.IntegersLemmas.Divided.{signed_refused, signed_refuses, signed_rest_refused, unsigned_refused, unsigned_rest_refused}
use Rattle.agreement.proofs.integers.divisions_trap.Goals as goal

pub returns-clause-div_u : goal.returns-clause-div_u
returns-clause-div_u c = λ w a b kind. unsigned_refused a b kind

pub returns-clause-rem_u : goal.returns-clause-rem_u
returns-clause-rem_u c = λ w a b kind. unsigned_rest_refused a b kind

pub returns-clause-rem_s : goal.returns-clause-rem_s
returns-clause-rem_s c = signed_rest_refused

pub returns-clause-div_s : goal.returns-clause-div_s
returns-clause-div_s c = λ w a b kind la lb. (signed_refused w a b kind la lb, signed_refuses w a b kind)
