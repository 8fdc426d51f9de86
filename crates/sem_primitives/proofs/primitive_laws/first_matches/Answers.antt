use Rattle.sem_primitives.proofs.Firsts.{first_match_is, has_match_is}
use Rattle.sem_primitives.proofs.primitive_laws.first_matches.Goals as goal

pub returns-clause-first : goal.returns-clause-first
returns-clause-first c = first_match_is

pub returns-clause-any : goal.returns-clause-any
returns-clause-any c = has_match_is
