use Rattle.awk_run.proofs.Executions.{cut_off_as_passed, executed_as_passed}
use Rattle.awk_run.proofs.execution_laws.counts_are_executions.Goals as goal

pub returns-clause-ended : goal.returns-clause-ended
returns-clause-ended g c = executed_as_passed g.W.World.is_modelled

pub returns-clause-cut_off : goal.returns-clause-cut_off
returns-clause-cut_off g c = cut_off_as_passed g.W.World.is_modelled
