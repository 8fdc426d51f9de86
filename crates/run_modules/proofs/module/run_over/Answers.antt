use Rattle.std.proofs.Common.{◌≡◌, [], subst}
use Rattle.host_tables.specs.Starts.{job_of}
use Rattle.host_values.specs.Findings.{ShownFirst}
use Rattle.host_calls.specs.Forms.{host_form}
use Rattle.wasm_types.specs.View.{view_module}
use Rattle.run_modules.specs.ModuleRun.{IsGiven}
use Rattle.run_modules.specs.ModuleRunParts.{RunAnswers}
use Rattle.run_modules.proofs.Runs.{typed_answers}
use Rattle.run_modules.proofs.module.run_over.Goals as goal

pub returns : goal.returns
returns g c =
    let tells = g.W.World.is_modelled in
    let told = g.W.World.state in
    let job = job_of c.args.job.now in
    let before = told c.args.world in
    let after = told c.run_valid.result.1 in
    let whole = view_module c.in-Ok.valid in
    let h = c.in-Ok-new.host in
    typed_answers tells (IsGiven g.W.World.did c.args.world c.run_valid.result.1) c.args.bytes.now job c.args.steps before after whole c.run_valid.result.0 c.in-Ok.ensures.ok
    (subst (λ w. ShownFirst (host_form told h) job ((told w).readers 0) (told w).outside
    → h.input.files.writers.items ≡ [] → RunAnswers tells (IsGiven g.W.World.did w c.run_valid.result.1) whole job c.args.steps (told w) c.run_valid.result.0 after)
    c.in-Ok-new.ensures.world (c.run_valid.ensures job) c.in-Ok-new.ensures.started c.in-Ok-new.ensures.none_open)
