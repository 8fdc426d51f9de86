use Rattle.lower_model.proofs.CodeFollows.{code_follows}
use Rattle.agreement.proofs.ModulesLemmas.Agreeing.{agreement}
use Rattle.agreement.proofs.modules.values_agree.Goals as goal

pub returns : goal.returns
returns c = λ p sorted. agreement p (code_follows p sorted)
