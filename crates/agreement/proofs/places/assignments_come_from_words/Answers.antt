use Rattle.lower_model.proofs.CodeFollows.{code_follows}
use Rattle.agreement.proofs.ModulesLemmas.Agreeing.{agreement}
use Rattle.agreement.proofs.PlacesLemmas.FromWords.{from_words}
use Rattle.agreement.proofs.places.assignments_come_from_words.Goals as goal

pub returns : goal.returns
returns c = λ p sorted. from_words p (agreement p (code_follows p sorted))
