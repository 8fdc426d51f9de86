use Rattle.run_modules.proofs.SpotCounts.{count_is_spots}
use Rattle.run_modules.proofs.place_laws.counts_are_of_spots.Goals as goal

pub returns : goal.returns
returns c = count_is_spots
