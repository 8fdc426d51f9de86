use Rattle.lower_model.proofs.CodeFollows.{code_follows}
use Rattle.agreement.proofs.ModulesLemmas.Agreeing.{agreement}
use Rattle.agreement.proofs.PlacesLemmas.Runs.{has_runs}
use Rattle.agreement.proofs.PlacesLemmas.Spelled.{spelled_small}
use Rattle.agreement.proofs.places.modules_run.Goals as goal

pub returns-clause-small : goal.returns-clause-small
returns-clause-small c = λ p sorted small. has_runs p sorted small (agreement p (code_follows p sorted))

pub returns-clause-spelled : goal.returns-clause-spelled
returns-clause-spelled c = λ p sorted bytes m few. has_runs p sorted (spelled_small p bytes m few) (agreement p (code_follows p sorted))
