-- What a world around another one was given, the world inside was given.
use Rattle.std.specs.Prelude.{ℕ, List}
use Rattle.sem_primitives.specs.Jobs.{JobForm}
use Rattle.world_core.specs.Traces.{Call}
use Rattle.world_core.specs.TraceParts.{IsHandedOn}
use Rattle.world_core.specs.WorldState.{State}
use Rattle.run_report.specs.declared.end.RunEnd.{RunEnd}
use Rattle.run_modules.specs.ModuleRun.{Answers, IsGiven}
use Rattle.awk_run.specs.ScriptRuns.{ScriptAnswers}
use Rattle.run_modules.proofs.Gave.{given_inside}
use Rattle.run_modules.proofs.Runs.{answers_so}
use Rattle.awk_run.proofs.ScriptRuns.{script_answers_so}

pub module_inside : {V W : Type 0} (tells : Type 0) (did : W → Call → W → Type 0) (old new : V) (inside : V → W) (bytes : List ℕ) (job : JobForm) (steps : ℕ)
    (before after : State) (e : RunEnd)
    → Answers tells (IsGiven (λ a call b. IsHandedOn did (inside a) call (inside b)) old new) bytes job steps before e after
    → Answers tells (IsGiven (IsHandedOn did) (inside old) (inside new)) bytes job steps before e after
module_inside tells did old new inside bytes job steps before after e r =
    answers_so tells (IsGiven (λ a call b. IsHandedOn did (inside a) call (inside b)) old new) (IsGiven (IsHandedOn did) (inside old) (inside new))
    (given_inside (IsHandedOn did) inside old new) bytes job steps before after e r

pub script_inside : {V W : Type 0} (tells : Type 0) (did : W → Call → W → Type 0) (old new : V) (inside : V → W) (script : List ℕ) (job : JobForm) (steps : ℕ)
    (before after : State) (e : RunEnd)
    → ScriptAnswers tells (IsGiven (λ a call b. IsHandedOn did (inside a) call (inside b)) old new) script job steps before e after
    → ScriptAnswers tells (IsGiven (IsHandedOn did) (inside old) (inside new)) script job steps before e after
script_inside tells did old new inside script job steps before after e r =
    script_answers_so tells (IsGiven (λ a call b. IsHandedOn did (inside a) call (inside b)) old new) (IsGiven (IsHandedOn did) (inside old) (inside new))
    (given_inside (IsHandedOn did) inside old new) script job steps before after e r
