use Rattle.ere_match.proofs.Firsts.{match_is}
use Rattle.ere_match.proofs.matching.is_match.Goals as goal

pub returns-clause-found : goal.returns-clause-found
returns-clause-found c = λ t a. match_is t c.args.text.now c.in_ok-found.found c.is_some.result c.is_some.ensures (c.in_ok-found.ensures.found t a)
