use Rattle.agreement.specs.Places.Assigned.{IsAssigned}
use Rattle.agreement.proofs.QuietLemmas.Laned.{at_laned, laned_quiet}
use Rattle.agreement.proofs.quiet.statements_are_quiet.Goals as goal

pub returns : goal.returns
returns c = λ p sorted typed job input outside m d s reached here a. laned_quiet p sorted typed job input outside m d s reached here (at_laned p d s here (IsAssigned reached) a)
