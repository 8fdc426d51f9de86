use Rattle.run_modules.proofs.SpotLines.{line_is_spots, no_line}
use Rattle.run_modules.proofs.place_laws.lines_are_of_spots.Goals as goal

pub returns-clause-line : goal.returns-clause-line
returns-clause-line c = line_is_spots

pub returns-clause-none : goal.returns-clause-none
returns-clause-none c = no_line
