use Rattle.agreement.proofs.PlacesLemmas.Parameters as Parameters
use Rattle.agreement.proofs.places.few_parameters.Goals as goal

pub returns : goal.returns
returns c = Parameters.few_parameters
