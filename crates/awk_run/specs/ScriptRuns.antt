-- What running a script answers: why it is not run, or what it did.
use Rattle.std.specs.Prelude.{◌≡◌, ◌≢◌, ◌⊎◌, ℕ, List}
use Rattle.sem_primitives.specs.Jobs.{JobForm}
use Rattle.world_core.specs.WorldState.{Action, Entry, State}
use Rattle.sem_scripts.specs.Kinds.{resolved}
use Rattle.sem_scripts.specs.ScriptRun.{Ended, Ending, FaultedBy, Exhausted, Setting, resolved_run}
use Rattle.agreement.specs.Runs.ToldRuns.{DoesSo, DoesSoThere, GoesOnThere, Told, Ends, PutsOut, Never}
use Rattle.run_report.specs.declared.compile_fault.CompileFault.TheVariants as compile
use Rattle.script_compiler.specs.Compiled.{IsCompiled}
use Rattle.script_compiler.specs.Refusals.{IsNotCompiled}
use Rattle.run_modules.specs.ModuleRun.{HasRun, IsUntouched, run_output}
use Rattle.run_report.specs.declared.end.Refusal.TheVariants.{Compile}
use Rattle.run_report.specs.declared.end.RunEnd.{RunEnd}
use Rattle.run_report.specs.declared.end.RunEnd.TheVariants as run

-- what an answer tells of how the script ends; a script never traps
abbrev pub told_of : RunEnd → Told
told_of (run.Ended status) = Ends (Ended status)
told_of (run.Faulted fault) = Ends (FaultedBy fault)
told_of run.Exhausted = Ends Exhausted
told_of run.OutOfSteps = PutsOut
told_of run.NoMemory = PutsOut
told_of (run.Refused cause) = Never
told_of (run.Trapped kind) = Never

-- The script does so, with this output, in surroundings that others change too, where each opening, read and write finds the next of some list; and where the
-- steps did not suffice, it is not over there within so many turns as they suffice for, by the bound of its module.
pub record DoesFound (script : Setting → ℕ → Ending) (job : JobForm) (bound steps : ℕ) (e : RunEnd) (output : List Action) : Type 0 where
  pub finds : List Entry
  pub does : DoesSoThere script job finds (told_of e) output
  pub goes_on : e ≡ run.OutOfSteps → GoesOnThere script job finds bound steps

-- The script is compiled, and its module is run so, with an output that was given so. In a modelled world the script does so too; in every world it does so in
-- surroundings that others change too, with the output of the run; where a step wanted memory, with what was put out before that step.
pub record IsScriptRun (tells : Type 0) (given : List Action → Type 0) (bytes : List ℕ) (job : JobForm) (steps : ℕ) (before : State) (e : RunEnd) (after : State)
    : Type 0 where
  pub compiled : List ℕ
  pub is_compiled : IsCompiled bytes compiled
  pub ran : HasRun tells given compiled job steps before e after
  pub does : tells → DoesSo (resolved_run (resolved is_compiled.script)) job (before.readers 0) before.outside (told_of e) after.outside
  pub there : DoesFound (resolved_run (resolved is_compiled.script)) job is_compiled.agreement.bound steps e (run_output ran.run)

-- what an answer says of the script and of the world
abbrev pub ScriptAnswers : (tells : Type 0) (given : List Action → Type 0) → List ℕ → JobForm → ℕ → State → RunEnd → State → Type 0
ScriptAnswers tells given bytes job steps before (run.Refused (Compile cause)) after = (cause ≢ compile.NoMemory) × IsNotCompiled bytes cause × IsUntouched given before after
ScriptAnswers tells given bytes job steps before (run.Refused cause) after = ⊥
ScriptAnswers tells given bytes job steps before run.NoMemory after = IsScriptRun tells given bytes job steps before run.NoMemory after ⊎ IsUntouched given before after
ScriptAnswers tells given bytes job steps before e after = IsScriptRun tells given bytes job steps before e after
