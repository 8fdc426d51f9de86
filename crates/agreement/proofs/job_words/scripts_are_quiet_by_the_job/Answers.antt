use Rattle.std.proofs.Common.{ℕ}
use Rattle.agreement.specs.Spots.Places.{final_program}
use Rattle.agreement.specs.Words.Words.{AssignsName}
use Rattle.agreement.proofs.QuietLemmas.Spots.{at_numeric, goes_on}
use Rattle.agreement.proofs.job_words.scripts_are_quiet_by_the_job.Goals as goal

pub returns : goal.returns
returns c = λ script sorted typed names job input outside m d s reached here a.
    let Assigned : ℕ → Type 0 = λ i. AssignsName (final_program script) job i in
    goes_on script d s here Assigned m.program a
    (c.quiet_by_the_job.ensures (final_program script) sorted typed names job input outside m d s reached here (at_numeric script d s here Assigned a))
