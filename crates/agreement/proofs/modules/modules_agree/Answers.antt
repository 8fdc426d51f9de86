use Rattle.lower_model.proofs.CodeFollows.{code_follows}
use Rattle.agreement.proofs.ModulesLemmas.Agreeing
use Rattle.agreement.proofs.ModulesLemmas.Modules.{agreement}
use Rattle.agreement.proofs.modules.modules_agree.Goals as goal

pub returns : goal.returns
returns c = λ p sorted. agreement p (Agreeing.agreement p (code_follows p sorted))
