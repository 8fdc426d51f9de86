use Rattle.lower_model.proofs.CodeFollows.{code_follows}
use Rattle.agreement.proofs.ModulesLemmas.Agreeing.{agreement}
use Rattle.agreement.proofs.WordsLemmas.Runs.{argv_there}
use Rattle.agreement.proofs.job_words.argv_stays.Goals as goal

pub returns : goal.returns
returns c = λ p sorted names. argv_there p sorted names (agreement p (code_follows p sorted))
