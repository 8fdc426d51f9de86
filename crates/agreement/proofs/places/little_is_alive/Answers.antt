use Rattle.agreement.proofs.PlacesLemmas.Alive.{arrays_alive, iterators_alive, values_alive, words_for_places}
use Rattle.agreement.proofs.places.little_is_alive.Goals as goal

pub returns-clause-values : goal.returns-clause-values
returns-clause-values c = values_alive

pub returns-clause-arrays : goal.returns-clause-arrays
returns-clause-arrays c = arrays_alive

pub returns-clause-iterators : goal.returns-clause-iterators
returns-clause-iterators c = iterators_alive

pub returns-clause-places : goal.returns-clause-places
returns-clause-places c = words_for_places
