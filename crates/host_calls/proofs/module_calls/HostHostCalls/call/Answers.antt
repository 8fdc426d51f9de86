use Rattle.std.proofs.Common.{refl}
use Rattle.host_calls.proofs.module_calls.HostHostCalls.call.Goals as goal

pub returns : goal.returns
returns g c = let m = c.answer.ensures in record { means = rw c.answer-2.ensures (m.0, ((refl, m.2), m.1)) }
