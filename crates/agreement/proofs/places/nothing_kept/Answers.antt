use Rattle.lower_model.proofs.CodeFollows.{code_follows}
use Rattle.agreement.proofs.ModulesLemmas.Agreeing.{agreement}
use Rattle.agreement.proofs.PlacesLemmas.Keeping.{returned, statement}
use Rattle.agreement.proofs.places.nothing_kept.Goals as goal

pub returns-clause-statement : goal.returns-clause-statement
returns-clause-statement c = λ p sorted job input outside m d s reached. statement p (agreement p (code_follows p sorted)) job input outside m d s reached sorted

pub returns-clause-returned : goal.returns-clause-returned
returns-clause-returned c = λ p sorted. returned p (agreement p (code_follows p sorted))
