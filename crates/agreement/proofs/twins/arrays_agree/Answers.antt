use Rattle.std.proofs.Common.{refl}
use Rattle.agreement.proofs.TwinsLemmas.Arrays.{got, made, put, there}
use Rattle.agreement.proofs.twins.arrays_agree.Goals as goal

pub returns-clause-got : goal.returns-clause-got
returns-clause-got c = got

pub returns-clause-put : goal.returns-clause-put
returns-clause-put c = put

pub returns-clause-deleted : goal.returns-clause-deleted
returns-clause-deleted c = λ key pairs. refl

pub returns-clause-made : goal.returns-clause-made
returns-clause-made c = made

pub returns-clause-there : goal.returns-clause-there
returns-clause-there c = there
