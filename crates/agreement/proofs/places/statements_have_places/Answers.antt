use Rattle.agreement.proofs.PlacesLemmas.Stepping.{main_has_places, main_has_starts, routine_has_starts, routine_places}
use Rattle.agreement.proofs.places.statements_have_places.Goals as goal

pub returns-clause-starts : goal.returns-clause-starts
returns-clause-starts c = routine_has_starts

pub returns-clause-main_starts : goal.returns-clause-main_starts
returns-clause-main_starts c = main_has_starts

pub returns-clause-routines : goal.returns-clause-routines
returns-clause-routines c = routine_places

pub returns-clause-main : goal.returns-clause-main
returns-clause-main c = main_has_places
