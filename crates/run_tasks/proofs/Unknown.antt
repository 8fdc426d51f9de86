-- Of what was given to a world less may be told: nothing.
use Rattle.std.specs.Prelude.{ℕ, List}
use Rattle.world_core.specs.WorldState.{Action, State}
use Rattle.command_line.specs.declared.Task.{Task}
use Rattle.run_report.specs.declared.end.RunEnd.{RunEnd}
use Rattle.run_modules.specs.ModuleRun.{Answers}
use Rattle.awk_run.specs.ScriptRuns.{ScriptAnswers}
use Rattle.run_modules.proofs.Runs.{answers_so}
use Rattle.awk_run.proofs.ScriptRuns.{script_answers_so}
use Rattle.task_pages.specs.Jobs.{files_of_task, job_of_task}
use Rattle.run_tasks.specs.Runs.{Anything, RunsModule, RunsText, Told}

pub any_text : (given : List Action → Type 0) (task : Task) (script : List ℕ) (environment : List (List ℕ × List ℕ)) (after : State) (e : RunEnd)
    → ScriptAnswers Told given script (job_of_task task environment) task.steps (files_of_task task) e after → RunsText task script environment e
any_text given task script environment after e r = record {
  after = after;
  answers = script_answers_so Told given Anything (λ output gave. tt) script (job_of_task task environment) task.steps (files_of_task task) after e r;
}

pub any_module : (given : List Action → Type 0) (task : Task) (bytes : List ℕ) (environment : List (List ℕ × List ℕ)) (after : State) (e : RunEnd)
    → Answers Told given bytes (job_of_task task environment) task.steps (files_of_task task) e after → RunsModule task bytes environment e
any_module given task bytes environment after e r = record {
  after = after;
  answers = answers_so Told given Anything (λ output gave. tt) bytes (job_of_task task environment) task.steps (files_of_task task) after e r;
}
