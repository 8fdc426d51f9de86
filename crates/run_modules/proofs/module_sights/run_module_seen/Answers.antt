use Rattle.std.proofs.Common.{rules, ◌≡◌, ◌≢◌, ◌-◌, ◌∙◌, ap, is_some, map, option_map, subst, arith}
use Rattle.host_calls.specs.Forms.{host_form}
use Rattle.host_calls.specs.Runs.{given_meaning, sight}
use Rattle.wasm_model.specs.Machines.{ProgramForm}
use Rattle.wasm_model.specs.MachineRuns.{Did, lasting}
use Rattle.wasm_model.specs.declared.ends.MachineEnd.{MachineEnd}
use Rattle.wasm_model.specs.declared.ends.MachineEnd.TheVariants as ends
use Rattle.script_places.specs.Lines.{form_of}
use Rattle.run_modules.specs.ModuleSeen.{TellsModule}
use Rattle.run_modules.proofs.Gave.{called_form, did_form}
use Rattle.run_modules.proofs.Pausing.{fault_step, of_some, was_over, went_on}
use Rattle.run_modules.proofs.module_sights.run_module_seen.Goals as goal

pub returns-then-ne-clause-did : goal.returns-then-ne-clause-did
returns-then-ne-clause-did g c =
    let told = g.W.World.state in
    let other : c.run_to_pause-end.result.0 ≢ ends.OutOfSteps = search rules in
    was_over (given_meaning g.W.World.is_modelled g.W.World.did) c.args.machine.now.program c.args.steps c.run_to_pause-end.result.1 c.run_to_pause-end.ensures.within
    c.args.machine.now.conf (sight told c.args.host) c.run_to_pause-end.new.self.conf (sight told c.run_to_pause-end.new.host.host) c.run_to_pause-end.result.0 other
    (c.run_to_pause-end.ensures.run c.requires.going)

pub returns-then-ne-clause-seen : goal.returns-then-ne-clause-seen
returns-then-ne-clause-seen g c =
    let told = g.W.World.state in
    let steps = c.args.steps in
    let left = c.run_to_pause-end.result.1 in
    let conf = c.run_to_pause-end.new.self.conf in
    let form = host_form told c.run_to_pause-end.new.host.host in
    of_some c.module_seen-found.result (λ w t. record {
      taken = steps - left;
      within = omega arith;
      end = c.run_to_pause-end.result.0;
      conf = conf;
      left = form;
      did = did_form g.W.World.is_modelled g.W.World.did c.args.machine.now.program (steps - left) c.args.machine.now.conf (sight told c.args.host) c.run_to_pause-end.result.0 conf
          (sight told c.run_to_pause-end.new.host.host) (c.run_to_pause-end.ensures.run c.requires.going);
      why = λ some. c.run_to_pause-end.ensures.paused c.requires.going (λ none. some (omega (arith, none)));
      at_once = λ out none some. fault_step g.W.World.is_modelled c.args.machine.now.program steps left c.args.machine.now.conf
          (host_form told c.args.host) conf form
          (called_form g.W.World.is_modelled g.W.World.did c.args.machine.now.program steps left c.args.machine.now.conf (sight told c.args.host) conf (sight told c.run_to_pause-end.new.host.host)
          (c.run_to_pause-end.ensures.first c.requires.going out (ap is_some none) some));
      told = subst (λ (q : ProgramForm). TellsModule (option_map (λ rows. map form_of rows.items) c.args.table.now) c.args.imports q conf form w) c.run_to_pause-end.ensures.program t;
    }) c.module_seen-found.ensures

pub returns-clause-did : goal.returns-clause-did
returns-clause-did g c =
    let told = g.W.World.state in
    let M = given_meaning g.W.World.is_modelled g.W.World.did in
    let m = c.args.machine.now.program in
    let left = c.run_to_pause-end.result.1 in
    let start = sight told c.args.host in
    let conf = c.run_to_pause-end.new.self.conf in
    let host = sight told c.run_to_pause-end.new.host.host in
    let last = c.run-end.new.self.conf in
    let kept = sight told c.run-end.new.host in
    let out : c.run_to_pause-end.result.0 ≡ ends.OutOfSteps = search rules in
    went_on M m c.args.steps left c.run_to_pause-end.ensures.within c.args.machine.now.conf start conf host c.run-end.result last kept
    (subst (λ (e : MachineEnd). Did M m (c.args.steps - left) c.args.machine.now.conf start e conf host) out (c.run_to_pause-end.ensures.run c.requires.going))
    (subst (λ (q : ProgramForm). Did M q left conf host c.run-end.result last kept) c.run_to_pause-end.ensures.program
    (c.run-end.ensures.run (c.run_to_pause-end.ensures.ended c.requires.going ∙ ap lasting out)))

pub returns-clause-seen : goal.returns-clause-seen
returns-clause-seen g c =
    let told = g.W.World.state in
    let steps = c.args.steps in
    let left = c.run_to_pause-end.result.1 in
    let conf = c.run_to_pause-end.new.self.conf in
    let form = host_form told c.run_to_pause-end.new.host.host in
    of_some c.module_seen-found.result (λ w t. record {
      taken = steps - left;
      within = omega arith;
      end = c.run_to_pause-end.result.0;
      conf = conf;
      left = form;
      did = did_form g.W.World.is_modelled g.W.World.did c.args.machine.now.program (steps - left) c.args.machine.now.conf (sight told c.args.host) c.run_to_pause-end.result.0 conf
          (sight told c.run_to_pause-end.new.host.host) (c.run_to_pause-end.ensures.run c.requires.going);
      why = λ some. c.run_to_pause-end.ensures.paused c.requires.going (λ none. some (omega (arith, none)));
      at_once = λ out none some. fault_step g.W.World.is_modelled c.args.machine.now.program steps left c.args.machine.now.conf
          (host_form told c.args.host) conf form
          (called_form g.W.World.is_modelled g.W.World.did c.args.machine.now.program steps left c.args.machine.now.conf (sight told c.args.host) conf (sight told c.run_to_pause-end.new.host.host)
          (c.run_to_pause-end.ensures.first c.requires.going out (ap is_some none) some));
      told = subst (λ (q : ProgramForm). TellsModule (option_map (λ rows. map form_of rows.items) c.args.table.now) c.args.imports q conf form w) c.run_to_pause-end.ensures.program t;
    }) c.module_seen-found.ensures
