use Rattle.lower_model.proofs.CodeFollows.{code_follows}
use Rattle.agreement.proofs.ModulesLemmas.Agreeing.{agreement}
use Rattle.agreement.proofs.PlacesLemmas.Handles.{unassigned}
use Rattle.agreement.proofs.places.names_get_no_handle.Goals as goal

pub returns : goal.returns
returns c = λ p sorted. unassigned p (agreement p (code_follows p sorted))
