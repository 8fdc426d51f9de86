use Rattle.std.proofs.Common.{ap, inr, List, refl, ℕ}
use Rattle.std.specs.Prelude.{IfSome}
use Rattle.world_core.specs.TraceParts.{IsHandedOn}
use Rattle.world_os.specs.Behind.{behind}
use Rattle.world_os.specs.Fences.{FenceForm, form_of, lets_read}
use Rattle.run_modules.specs.ModuleRun.{IsGiven}
use Rattle.awk_run.specs.ScriptRuns.{ScriptAnswers}
use Rattle.awk_run.specs.Seen.{IsSeenIn}
use Rattle.host_tables.specs.Starts.{job_of}
use Rattle.run_tasks.proofs.Moved.{at, moved}
use Rattle.run_modules.proofs.Gave.{none_given}
use Rattle.run_tasks.proofs.Inside.{script_inside}
use Rattle.run_tasks.proofs.sandbox.script_seen_behind.Goals as goal

pub returns-in-Ok-clause-answers : goal.returns-in-Ok-clause-answers
returns-in-Ok-clause-answers g c = moved (λ job fence. ScriptAnswers (g.W.World.is_modelled × ⊥) (IsGiven (IsHandedOn g.W.World.did) c.args.world.inner c.run_script_where.result.2.inner) c.args.task.now.subject.now job c.args.task.now.steps
    (behind (lets_read fence) (g.W.World.state c.args.world.inner)) c.run_script_where.result.0
    (behind (lets_read (form_of c.run_script_where.result.2.fence)) (g.W.World.state c.run_script_where.result.2.inner))) c.in-Ok.ensures c.requires
    (at (λ (script : List ℕ). ScriptAnswers (g.W.World.is_modelled × ⊥) (IsGiven (IsHandedOn g.W.World.did) c.args.world.inner c.run_script_where.result.2.inner) script (job_of c.in-Ok.job) c.args.task.now.steps
    (behind (lets_read (form_of c.args.world.fence)) (g.W.World.state c.args.world.inner)) c.run_script_where.result.0
    (behind (lets_read (form_of c.run_script_where.result.2.fence)) (g.W.World.state c.run_script_where.result.2.inner))) c.as_bytes-script.ensures.value
    (script_inside (g.W.World.is_modelled × ⊥) g.W.World.did c.args.world c.run_script_where.result.2 (λ w. w.inner) c.as_bytes-script.result.now (job_of c.in-Ok.job) c.args.task.now.steps
    (behind (lets_read (form_of c.args.world.fence)) (g.W.World.state c.args.world.inner))
    (behind (lets_read (form_of c.run_script_where.result.2.fence)) (g.W.World.state c.run_script_where.result.2.inner)) c.run_script_where.result.0 c.run_script_where.ensures.answers))

pub returns-in-Ok-clause-seen : goal.returns-in-Ok-clause-seen
returns-in-Ok-clause-seen g c = moved (λ job fence. IfSome c.run_script_where.result.1 (IsSeenIn (g.W.World.is_modelled × ⊥) c.args.task.now.subject.now job
    c.args.task.now.steps (behind (lets_read fence) (g.W.World.state c.args.world.inner)))) c.in-Ok.ensures c.requires
    (at (λ (script : List ℕ). IfSome c.run_script_where.result.1 (IsSeenIn (g.W.World.is_modelled × ⊥) script (job_of c.in-Ok.job) c.args.task.now.steps
    (behind (lets_read (form_of c.args.world.fence)) (g.W.World.state c.args.world.inner)))) c.as_bytes-script.ensures.value c.run_script_where.ensures.seen)

-- nothing is run for want of memory
pub returns-in-Err-clause-answers : goal.returns-in-Err-clause-answers
returns-in-Err-clause-answers g c = inr (
  ap (λ (fence : FenceForm). behind (lets_read fence) (g.W.World.state c.args.world.inner)) c.requires,
  none_given (IsHandedOn g.W.World.did) c.args.world.inner c.args.world.inner refl,
)
