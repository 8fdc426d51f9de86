use Rattle.std.proofs.Common.{◌≡◌, sym, ap, ◌∙◌, subst, Option}
use Rattle.awk_values.specs.declared.fault.Fault.{Fault}
use Rattle.agreement.proofs.RunsLemmas.Telling.{did_find, did_tell}
use Rattle.host_calls.specs.Forms.{host_form}
use Rattle.host_calls.specs.Runs.{sight}
use Rattle.wasm_types.specs.View.{view_module}
use Rattle.run_modules.specs.ModuleRun.{IsGiven, run_end}
use Rattle.run_modules.specs.ModuleRunParts.{RunAnswers}
use Rattle.run_report.specs.declared.end.RunEnd.{RunEnd}
use Rattle.run_modules.proofs.Gave.{did_form, did_gave, is_given}
use Rattle.run_modules.proofs.Runs.{did_answers}
use Rattle.run_modules.proofs.module.run_valid.Goals as goal

pub returns : goal.returns
returns g c = λ job shown none.
    let tells = g.W.World.is_modelled in
    let told = g.W.World.state in
    let n = c.in-Ok.ensures.ok in
    let before = told c.args.host.world in
    let after = told c.into_world-2.result in
    let whole = view_module c.args.valid in
    let start = host_form told c.args.host in
    let left = host_form told c.run-end.new.host in
    let a = c.in-Ok.machine in
    let end = c.run-end.result in
    let conf = c.run-end.new.self.conf in
    let run = c.run-end.ensures.run n.ended in
    let given = IsGiven g.W.World.did c.args.host.world c.into_world-2.result in
    let did = did_form tells g.W.World.did a.program c.args.steps a.conf (sight told c.args.host) end conf (sight told c.run-end.new.host) run in
    let gave = is_given g.W.World.did c.args.host.world c.run-end.new.host.world c.into_world-2.result c.args.host.input.files.writers.items
    c.run-end.new.host.input.files.writers.items run.0 none c.into_world-2.ensures
    (did_gave tells g.W.World.did a.program c.args.steps a.conf (sight told c.args.host) end conf (sight told c.run-end.new.host) run) in
    let e : c.run_end.result ≡ run_end left.fault end = c.run_end.ensures ∙ ap (λ (k : Option Fault). run_end k end) c.kept_fault.ensures in
    subst (λ (z : RunEnd). RunAnswers tells given whole job c.args.steps before z after) (sym e)
    (did_answers tells given whole job c.args.steps before after a n start shown end conf left did
    (ap (λ w. (told w).outside) c.into_world-2.ensures)
    (λ t. did_tell whole c.requires a n job (before.readers 0) before.outside tells t start shown.kept c.args.steps end conf left did)
    (did_find whole c.requires a n job (before.readers 0) before.outside tells start shown c.args.steps end conf left did)
    gave)
