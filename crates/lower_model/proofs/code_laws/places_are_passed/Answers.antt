use Rattle.lower_model.proofs.CodeFollows.{code_notes}
use Rattle.lower_model.proofs.code_laws.places_are_passed.Goals as goal

pub returns : goal.returns
returns c = code_notes
