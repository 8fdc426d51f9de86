use Rattle.host_calls.proofs.KeptFaults.{none_before, stays}
use Rattle.host_calls.proofs.fault_laws.kept_faults_stay.Goals as goal

pub returns-clause-stays : goal.returns-clause-stays
returns-clause-stays g c = stays g.W.World.is_modelled

pub returns-clause-none_before : goal.returns-clause-none_before
returns-clause-none_before g c = none_before g.W.World.is_modelled
