use Rattle.host_values.proofs.Faults.{called_too}
use Rattle.host_values.proofs.call_laws.faulted_calls.Goals as goal

pub returns : goal.returns
returns g c = called_too g.W.World.is_modelled
