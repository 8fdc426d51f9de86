use Rattle.host_calls.specs.Forms.{host_form}
use Rattle.host_calls.proofs.host.Host.tell.Goals as goal

pub returns-clause-kept : goal.returns-clause-kept
returns-clause-kept g c = c.keep.ensures (host_form g.W.World.state c.args.self.now)
