-- What a task runs.
use Rattle.std.specs.Prelude.{ℕ, List, Option, IfSome}
use Rattle.world_core.specs.WorldState.{Action, State}
use Rattle.command_line.specs.declared.Task.{Task}
use Rattle.awk_run.specs.Counted.{IsCountedIn}
use Rattle.run_modules.specs.ModuleRun.{Answers}
use Rattle.run_modules.specs.ModuleSeen.{IsModuleSeenIn}
use Rattle.awk_run.specs.ScriptRuns.{ScriptAnswers}
use Rattle.awk_run.specs.Seen.{IsSeenIn}
use Rattle.run_modules.specs.declared.module_sights.ModuleWhereabouts.{ModuleWhereabouts}
use Rattle.run_report.specs.declared.counts.RunCounts.{RunCounts}
use Rattle.run_report.specs.declared.end.RunEnd.{RunEnd}
use Rattle.run_report.specs.declared.whereabouts.Whereabouts.{Whereabouts}
use Rattle.task_pages.specs.Jobs.{files_of_task, job_of_task}

-- nothing is told of real files, and nothing of them behind a fence
abbrev pub Told : Type 0
Told = ⊥ × ⊥

-- nothing is known of what was given to real files
abbrev pub Anything : List Action → Type 0
Anything output = Unit {0}

-- A script of these bytes is run, in the job of the task with this environment, over real files behind the task's fence, and this is answered, with an output
-- that was given so.
pub record GivesText (given : List Action → Type 0) (task : Task) (script : List ℕ) (environment : List (List ℕ × List ℕ)) (e : RunEnd) : Type 0 where
  pub after : State
  pub answers : ScriptAnswers Told given script (job_of_task task environment) task.steps (files_of_task task) e after

-- The module of these bytes is run so.
pub record GivesModule (given : List Action → Type 0) (task : Task) (bytes : List ℕ) (environment : List (List ℕ × List ℕ)) (e : RunEnd) : Type 0 where
  pub after : State
  pub answers : Answers Told given bytes (job_of_task task environment) task.steps (files_of_task task) e after

-- the same, where nothing is told of what was given
abbrev pub RunsText : Task → List ℕ → List (List ℕ × List ℕ) → RunEnd → Type 0
RunsText = GivesText Anything

abbrev pub RunsScript : Task → List (List ℕ × List ℕ) → RunEnd → Type 0
RunsScript task = RunsText task task.subject.now

abbrev pub RunsModule : Task → List ℕ → List (List ℕ × List ℕ) → RunEnd → Type 0
RunsModule = GivesModule Anything

-- what is told of where the task's script was in such a run, if anything is
abbrev pub SeesScript : Task → List (List ℕ × List ℕ) → Option Whereabouts → Type 0
SeesScript task environment found = IfSome found (IsSeenIn Told task.subject.now (job_of_task task environment) task.steps (files_of_task task))

-- what is counted of a run of a script of these bytes, if anything is
abbrev pub CountsText : Task → List ℕ → List (List ℕ × List ℕ) → Option RunCounts → Type 0
CountsText task script environment counts = IfSome counts (IsCountedIn Told script (job_of_task task environment) task.steps (files_of_task task))

-- what is told of where the module of these bytes was, if anything is
abbrev pub SeesModule : Task → List ℕ → List (List ℕ × List ℕ) → Option ModuleWhereabouts → Type 0
SeesModule task bytes environment found = IfSome found (IsModuleSeenIn Told bytes (job_of_task task environment) task.steps (files_of_task task))
