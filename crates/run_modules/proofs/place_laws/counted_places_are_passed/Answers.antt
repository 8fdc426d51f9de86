use Rattle.run_modules.proofs.StandingPlaces.{stands_at_place}
use Rattle.run_modules.proofs.place_laws.counted_places_are_passed.Goals as goal

pub returns : goal.returns
returns c = stands_at_place
