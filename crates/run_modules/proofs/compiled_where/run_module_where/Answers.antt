use Rattle.std.proofs.Common.{◌≡◌, [], subst}
use Rattle.std.specs.Prelude.{IfSome}
use Rattle.host_tables.specs.Starts.{job_of}
use Rattle.host_values.specs.Findings.{ShownFirst}
use Rattle.host_calls.specs.Forms.{host_form}
use Rattle.wasm_types.specs.View.{view_module}
use Rattle.run_modules.specs.ModuleRun.{IsGiven}
use Rattle.run_modules.specs.ModuleRunParts.{RunAnswers}
use Rattle.run_modules.specs.Seen.{IsSeenOf}
use Rattle.run_modules.proofs.Pausing.{of_some}
use Rattle.run_modules.proofs.Runs.{typed_answers}
use Rattle.run_modules.proofs.compiled_where.run_module_where.Goals as goal

pub returns-clause-answers : goal.returns-clause-answers
returns-clause-answers g c =
    let tells = g.W.World.is_modelled in
    let told = g.W.World.state in
    let job = job_of c.args.job.now in
    let before = told c.args.world in
    let after = told c.run_valid_where.result.2 in
    let whole = view_module c.in-Ok.valid in
    let h = c.in-Ok-new.host in
    typed_answers tells (IsGiven g.W.World.did c.args.world c.run_valid_where.result.2) c.args.bytes.now job c.args.steps before after whole c.run_valid_where.result.0 c.in-Ok.ensures.ok
    (subst (λ w. ShownFirst (host_form told h) job ((told w).readers 0) (told w).outside
    → h.input.files.writers.items ≡ [] → RunAnswers tells (IsGiven g.W.World.did w c.run_valid_where.result.2) whole job c.args.steps (told w) c.run_valid_where.result.0 after)
    c.in-Ok-new.ensures.world (c.run_valid_where.ensures.answers job) c.in-Ok-new.ensures.started c.in-Ok-new.ensures.none_open)

pub returns-clause-seen : goal.returns-clause-seen
returns-clause-seen g c =
    let tells = g.W.World.is_modelled in
    let told = g.W.World.state in
    let job = job_of c.args.job.now in
    let whole = view_module c.in-Ok.valid in
    let h = c.in-Ok-new.host in
    of_some c.run_valid_where.result.1 (λ w r. record { whole = whole; read = c.in-Ok.ensures.ok.0; run = r })
    (subst (λ w. ShownFirst (host_form told h) job ((told w).readers 0) (told w).outside
    → IfSome c.run_valid_where.result.1 (IsSeenOf tells c.args.script.now whole job c.args.steps (told w)))
    c.in-Ok-new.ensures.world (c.run_valid_where.ensures.seen job) c.in-Ok-new.ensures.started)
