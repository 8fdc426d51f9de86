use Rattle.std.proofs.Common.{ap, inr, List, refl, ℕ}
use Rattle.world_core.specs.TraceParts.{IsHandedOn}
use Rattle.world_os.specs.Behind.{behind}
use Rattle.world_os.specs.Fences.{FenceForm, form_of, lets_read}
use Rattle.run_modules.specs.ModuleRun.{IsGiven}
use Rattle.awk_run.specs.ScriptRuns.{ScriptAnswers}
use Rattle.host_tables.specs.Starts.{job_of}
use Rattle.run_tasks.proofs.Moved.{at, moved}
use Rattle.run_modules.proofs.Gave.{none_given}
use Rattle.run_tasks.proofs.Inside.{script_inside}
use Rattle.run_tasks.proofs.sandbox.script_behind.Goals as goal

pub returns-in-Ok : goal.returns-in-Ok
returns-in-Ok g c = moved (λ job fence. ScriptAnswers (g.W.World.is_modelled × ⊥) (IsGiven (IsHandedOn g.W.World.did) c.args.world.inner c.run_script.result.1.inner) c.args.task.now.subject.now job c.args.task.now.steps
    (behind (lets_read fence) (g.W.World.state c.args.world.inner)) c.run_script.result.0
    (behind (lets_read (form_of c.run_script.result.1.fence)) (g.W.World.state c.run_script.result.1.inner))) c.in-Ok.ensures c.requires
    (at (λ (script : List ℕ). ScriptAnswers (g.W.World.is_modelled × ⊥) (IsGiven (IsHandedOn g.W.World.did) c.args.world.inner c.run_script.result.1.inner) script (job_of c.in-Ok.job) c.args.task.now.steps
    (behind (lets_read (form_of c.args.world.fence)) (g.W.World.state c.args.world.inner)) c.run_script.result.0
    (behind (lets_read (form_of c.run_script.result.1.fence)) (g.W.World.state c.run_script.result.1.inner))) c.as_bytes-script.ensures.value
    (script_inside (g.W.World.is_modelled × ⊥) g.W.World.did c.args.world c.run_script.result.1 (λ w. w.inner) c.as_bytes-script.result.now (job_of c.in-Ok.job) c.args.task.now.steps
    (behind (lets_read (form_of c.args.world.fence)) (g.W.World.state c.args.world.inner))
    (behind (lets_read (form_of c.run_script.result.1.fence)) (g.W.World.state c.run_script.result.1.inner)) c.run_script.result.0 c.run_script.ensures))

-- nothing is run for want of memory
pub returns-in-Err : goal.returns-in-Err
returns-in-Err g c = inr (
  ap (λ (fence : FenceForm). behind (lets_read fence) (g.W.World.state c.args.world.inner)) c.requires,
  none_given (IsHandedOn g.W.World.did) c.args.world.inner c.args.world.inner refl,
)
