use Rattle.std.proofs.Common.{◌≡◌, ℕ, sym, ap, map, option_map, ◌∙◌, subst, Option}
use Rattle.awk_values.specs.declared.fault.Fault.{Fault}
use Rattle.agreement.proofs.RunsLemmas.Telling.{did_find, did_tell}
use Rattle.host_calls.specs.Forms.{host_form}
use Rattle.host_calls.specs.Runs.{sight}
use Rattle.wasm_types.specs.View.{view_module}
use Rattle.script_places.specs.Lines.{form_of}
use Rattle.run_modules.specs.ModuleRun.{IsGiven, run_end}
use Rattle.run_modules.specs.ModuleRunParts.{RunAnswers}
use Rattle.run_modules.specs.ModuleSeen.{IsModuleSeen}
use Rattle.run_report.specs.declared.end.RunEnd.{RunEnd}
use Rattle.run_modules.proofs.Pausing.{of_some}
use Rattle.run_modules.proofs.Gave.{did_form, did_gave, is_given}
use Rattle.run_modules.proofs.Runs.{did_answers}
use Rattle.run_modules.proofs.module_where.run_valid_seen.Goals as goal

pub returns-clause-answers : goal.returns-clause-answers
returns-clause-answers g c = λ job shown none.
    let tells = g.W.World.is_modelled in
    let told = g.W.World.state in
    let n = c.in-Ok.ensures.ok in
    let before = told c.args.host.world in
    let after = told c.into_world-2.result in
    let whole = view_module c.args.valid in
    let start = host_form told c.args.host in
    let left = host_form told c.run_module_seen-end.result.2 in
    let a = c.in-Ok.machine in
    let end = c.run_module_seen-end.result.0 in
    let conf = c.run_module_seen-end.new.machine.conf in
    let run = c.run_module_seen-end.ensures.did in
    let given = IsGiven g.W.World.did c.args.host.world c.into_world-2.result in
    let did = did_form tells g.W.World.did a.program c.args.steps a.conf (sight told c.args.host) end conf (sight told c.run_module_seen-end.result.2) run in
    let gave = is_given g.W.World.did c.args.host.world c.run_module_seen-end.result.2.world c.into_world-2.result c.args.host.input.files.writers.items
    c.run_module_seen-end.result.2.input.files.writers.items run.0 none c.into_world-2.ensures
    (did_gave tells g.W.World.did a.program c.args.steps a.conf (sight told c.args.host) end conf (sight told c.run_module_seen-end.result.2) run) in
    let e : c.run_end.result ≡ run_end left.fault end = c.run_end.ensures ∙ ap (λ (k : Option Fault). run_end k end) c.kept_fault.ensures in
    subst (λ (z : RunEnd). RunAnswers tells given whole job c.args.steps before z after) (sym e)
    (did_answers tells given whole job c.args.steps before after a n start shown end conf left did
    (ap (λ w. (told w).outside) c.into_world-2.ensures)
    (λ t. did_tell whole c.requires a n job (before.readers 0) before.outside tells t start shown.kept c.args.steps end conf left did)
    (did_find whole c.requires a n job (before.readers 0) before.outside tells start shown c.args.steps end conf left did)
    gave)

pub returns-clause-seen : goal.returns-clause-seen
returns-clause-seen g c = λ job shown.
    let table = option_map (λ rows. map form_of rows.items) c.args.table.now in
    let program = c.in-Ok.machine.program in
    let start = host_form g.W.World.state c.args.host in
    of_some c.run_module_seen-end.result.1 (λ w s. record {
      machine = c.in-Ok.machine;
      is_new = c.in-Ok.ensures.ok;
      start = start;
      begins = shown;
      seen = subst (λ (n : ℕ). IsModuleSeen g.W.World.is_modelled table n program c.args.steps c.in-Ok.machine.conf start w) c.import_count-imports.ensures s;
    }) c.run_module_seen-end.ensures.seen
