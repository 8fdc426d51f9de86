use Rattle.agreement.proofs.PlacesLemmas.Alive.{arrays_left, iterators_left, values_left}
use Rattle.agreement.proofs.places.names_alone_are_alive.Goals as goal

pub returns-clause-values : goal.returns-clause-values
returns-clause-values c = values_left

pub returns-clause-arrays : goal.returns-clause-arrays
returns-clause-arrays c = arrays_left

pub returns-clause-iterators : goal.returns-clause-iterators
returns-clause-iterators c = iterators_left
