use Rattle.run_modules.proofs.AtStatements.{told_place}
use Rattle.run_modules.proofs.place_laws.told_places_are_at_work.Goals as goal

pub returns : goal.returns
returns c = told_place
