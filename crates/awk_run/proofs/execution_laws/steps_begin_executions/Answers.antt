use Rattle.awk_run.proofs.Executions.{cut_off, executed}
use Rattle.awk_run.proofs.execution_laws.steps_begin_executions.Goals as goal

pub returns-clause-ended : goal.returns-clause-ended
returns-clause-ended g c = executed g.W.World.is_modelled

pub returns-clause-cut_off : goal.returns-clause-cut_off
returns-clause-cut_off g c = cut_off g.W.World.is_modelled
