use Rattle.test_parts.proofs.ReadScripts.{run_is, run_means}
use Rattle.test_parts.proofs.row_laws.runs_are_computed.Goals as goal

pub returns : goal.returns
returns c = λ bytes setting turns ending. (run_means bytes setting turns ending, run_is bytes setting turns ending)
