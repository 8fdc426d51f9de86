use Rattle.lower_model.proofs.CodeFollows.{code_follows}
use Rattle.agreement.proofs.ModulesLemmas.Agreeing.{agreement}
use Rattle.agreement.proofs.WordsLemmas.Runs.{assigned_by_job}
use Rattle.agreement.proofs.job_words.assignments_are_the_jobs.Goals as goal

pub returns : goal.returns
returns c = λ p sorted names. assigned_by_job p sorted names (agreement p (code_follows p sorted))
