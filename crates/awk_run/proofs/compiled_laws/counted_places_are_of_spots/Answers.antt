use Rattle.awk_run.proofs.SpotPlaces.{counted_spots}
use Rattle.awk_run.proofs.compiled_laws.counted_places_are_of_spots.Goals as goal

pub returns : goal.returns
returns c = counted_spots
