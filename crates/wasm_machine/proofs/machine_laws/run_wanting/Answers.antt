use Rattle.wasm_model.proofs.Chains.{wanted}
use Rattle.wasm_machine.proofs.machine_laws.run_wanting.Goals as goal

pub returns-clause-prefix : goal.returns-clause-prefix
returns-clause-prefix g c = λ e. wanted g.H.HostCalls.meaning c.args.machine.now.program c.args.steps c.args.machine.now.conf (g.H.HostCalls.state c.args.host.now) c.run.result c.run.new.self.conf (g.H.HostCalls.state c.run.new.host) g.met.H.HostCalls.refused (c.run.ensures.run c.requires.going) e
