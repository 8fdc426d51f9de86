use Rattle.std.proofs.Common.{rules, ◌≡◌, ◌≢◌, ◌∙◌, ap, subst}
use Rattle.wasm_model.specs.Machines.{ProgramForm}
use Rattle.wasm_model.specs.MachineRuns.{Did, lasting}
use Rattle.wasm_model.specs.declared.ends.MachineEnd.{MachineEnd}
use Rattle.wasm_model.specs.declared.ends.MachineEnd.TheVariants as told
use Rattle.wasm_model.proofs.Chains.{did_less, did_on}
use Rattle.wasm_machine.proofs.machine_laws.run_on.Goals as goal

pub returns : goal.returns
returns g c =
    let M = g.H.HostCalls.meaning in
    let m = c.args.machine.now.program in
    let out : c.run-end.result ≡ told.OutOfSteps = search rules in
    let d = c.run-end.ensures.run c.requires.going in
    let e = c.run.ensures.run (c.run-end.ensures.ended c.requires.going ∙ ap lasting out) in
    did_on M m c.args.first c.args.then c.args.machine.now.conf (g.H.HostCalls.state c.args.host.now) c.run-end.new.self.conf (g.H.HostCalls.state c.run-end.new.host) c.run.result c.run.new.self.conf (g.H.HostCalls.state c.run.new.host)
    (subst (λ (r : MachineEnd). Did M m c.args.first c.args.machine.now.conf (g.H.HostCalls.state c.args.host.now) r c.run-end.new.self.conf (g.H.HostCalls.state c.run-end.new.host)) out d)
    (subst (λ (q : ProgramForm). Did M q c.args.then c.run-end.new.self.conf (g.H.HostCalls.state c.run-end.new.host) c.run.result c.run.new.self.conf (g.H.HostCalls.state c.run.new.host)) c.run-end.ensures.program e)

pub returns-then-ne : goal.returns-then-ne
returns-then-ne g c =
    let other : c.run-end.result ≢ told.OutOfSteps = search rules in
    did_less g.H.HostCalls.meaning c.args.machine.now.program c.args.first c.args.then c.args.machine.now.conf (g.H.HostCalls.state c.args.host.now) c.run-end.result c.run-end.new.self.conf (g.H.HostCalls.state c.run-end.new.host) other (c.run-end.ensures.run c.requires.going)
