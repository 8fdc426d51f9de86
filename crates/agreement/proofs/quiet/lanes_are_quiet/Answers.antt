use Rattle.agreement.proofs.QuietLemmas.Laned.{laned_quiet}
use Rattle.agreement.proofs.quiet.lanes_are_quiet.Goals as goal

pub returns : goal.returns
returns c = laned_quiet
