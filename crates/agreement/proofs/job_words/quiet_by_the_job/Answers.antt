use Rattle.lower_model.proofs.CodeFollows.{code_follows}
use Rattle.agreement.proofs.ModulesLemmas.Agreeing.{agreement}
use Rattle.agreement.specs.Places.Assigned.{IsAssigned}
use Rattle.agreement.specs.Words.Words.{AssignsName}
use Rattle.agreement.proofs.WordsLemmas.Quiet.{at_numeric}
use Rattle.agreement.proofs.WordsLemmas.Runs.{assigned_by_job}
use Rattle.agreement.proofs.job_words.quiet_by_the_job.Goals as goal

pub returns : goal.returns
returns c = λ p sorted typed names job input outside m d s reached here a.
    c.statements_are_quiet.ensures p sorted typed job input outside m d s reached here
    (at_numeric p d s here (λ i. AssignsName p job i) (IsAssigned reached) (assigned_by_job p sorted names (agreement p (code_follows p sorted)) job input outside m d s reached) a)
