use Rattle.std.proofs.Common.{◌≡◌, sym, ap, ◌∙◌, subst, Option}
use Rattle.awk_values.specs.declared.fault.Fault.{Fault}
use Rattle.agreement.proofs.RunsLemmas.Telling.{did_find, did_tell}
use Rattle.host_calls.specs.Forms.{host_form}
use Rattle.host_calls.specs.Runs.{sight}
use Rattle.wasm_types.specs.declared.module.Module.{Module}
use Rattle.wasm_types.specs.View.{view_module}
use Rattle.script_places.specs.Passes.{nops_in}
use Rattle.run_modules.specs.ModuleRun.{IsGiven, run_end}
use Rattle.run_modules.specs.ModuleRunParts.{RunAnswers}
use Rattle.run_report.specs.declared.end.RunEnd.{RunEnd}
use Rattle.run_modules.proofs.Pausing.{of_some}
use Rattle.run_modules.proofs.Gave.{did_form, did_gave, is_given}
use Rattle.run_modules.proofs.Runs.{did_answers}
use Rattle.run_modules.proofs.compiled_counts.run_valid_counted.Goals as goal

-- the machine's module is the one that was tallied
pub run_counted-end-requires-clause-nops : goal.run_counted-end-requires-clause-nops
run_counted-end-requires-clause-nops g c =
    c.in-Ok.ensures.nops ∙ ap (λ (m : Module). nops_in (view_module m)) c.get.ensures.same ∙ ap nops_in (sym c.in-Ok-new.ensures.ok.whole)

pub returns-clause-answers : goal.returns-clause-answers
returns-clause-answers g c = λ job shown none.
    let tells = g.W.World.is_modelled in
    let told = g.W.World.state in
    let n = c.in-Ok-new.ensures.ok in
    let before = told c.args.host.world in
    let after = told c.into_world-2.result in
    let whole = view_module c.args.valid in
    let start = host_form told c.args.host in
    let left = host_form told c.run_counted-end.result.2 in
    let a = c.in-Ok-new.machine in
    let end = c.run_counted-end.result.0 in
    let conf = c.run_counted-end.new.machine.conf in
    let run = c.run_counted-end.ensures.did in
    let given = IsGiven g.W.World.did c.args.host.world c.into_world-2.result in
    let did = did_form tells g.W.World.did a.program c.args.steps a.conf (sight told c.args.host) end conf (sight told c.run_counted-end.result.2) run in
    let gave = is_given g.W.World.did c.args.host.world c.run_counted-end.result.2.world c.into_world-2.result c.args.host.input.files.writers.items
    c.run_counted-end.result.2.input.files.writers.items run.0 none c.into_world-2.ensures
    (did_gave tells g.W.World.did a.program c.args.steps a.conf (sight told c.args.host) end conf (sight told c.run_counted-end.result.2) run) in
    let e : c.run_end.result ≡ run_end left.fault end = c.run_end.ensures ∙ ap (λ (k : Option Fault). run_end k end) c.kept_fault.ensures in
    subst (λ (z : RunEnd). RunAnswers tells given whole job c.args.steps before z after) (sym e)
    (did_answers tells given whole job c.args.steps before after a n start shown end conf left did
    (ap (λ w. (told w).outside) c.into_world-2.ensures)
    (λ t. did_tell whole c.requires a n job (before.readers 0) before.outside tells t start shown.kept c.args.steps end conf left did)
    (did_find whole c.requires a n job (before.readers 0) before.outside tells start shown c.args.steps end conf left did)
    gave)

pub returns-clause-counted : goal.returns-clause-counted
returns-clause-counted g c = λ job shown.
    of_some c.run_counted-end.result.1 (λ w s. record { machine = c.in-Ok-new.machine; is_new = c.in-Ok-new.ensures.ok; start = host_form g.W.World.state c.args.host; begins = shown; counted = s }) c.run_counted-end.ensures.counted
