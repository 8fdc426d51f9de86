use Rattle.host_step.proofs.Columns.{no_fault, no_trap}
use Rattle.host_step.proofs.step_laws.columns.Goals as goal

pub returns-clause-faults : goal.returns-clause-faults
returns-clause-faults c = no_fault

pub returns-clause-traps : goal.returns-clause-traps
returns-clause-traps c = no_trap
