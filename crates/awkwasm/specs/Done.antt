-- What became of what a command line asks for: what each command answers, and the exit status.
use Rattle.std.specs.Prelude.{◌≡◌, ◌⊎◌, ℕ, List, map, Result, Ok, Err}
use Rattle.command_line.specs.declared.Request.{Request}
use Rattle.command_line.specs.declared.Request.TheVariants.{Check, Compile, Run, Count, Exec, Imports, Explain}
use Rattle.run_report.specs.declared.end.RunEnd.{RunEnd}
use Rattle.run_tasks.specs.Compiles.{Compiles, CompilesSo}
use Rattle.run_tasks.specs.Runs.{RunsModule, RunsScript, RunsText}
use Rattle.task_pages.specs.Tasks.{task_code}
use Rattle.task_pages.specs.declared.task_error.TaskError.{TaskError}
use Rattle.host_texts.specs.NameForms.{pair_of}
use Rattle.host_texts.specs.declared.names.NamedText.{NamedText}
use Rattle.task_pages.specs.Environment.{IsSortedByName}
use Rattle.task_pages.specs.Outcomes.{IsExplained, IsUnbegun, IsUnread, IsUnwritten, ListsSo}

-- what becomes of a request
abbrev pub Does : Request → Result RunEnd TaskError → Type 0
Does (Compile script_file out has_lines) (Ok e) = (bytes : List ℕ) × CompilesSo has_lines bytes e
Does (Compile script_file out has_lines) (Err undone) = IsUnread undone ⊎ IsUnwritten undone
Does (Check script_file) (Ok e) = (bytes : List ℕ) × Compiles bytes e
Does (Check script_file) (Err undone) = IsUnread undone ⊎ IsUnwritten undone
Does (Run task) (Ok e) = (environment : List NamedText) × IsSortedByName environment × RunsScript task (map pair_of environment) e
Does (Run task) (Err undone) = IsUnbegun undone
Does (Count task) (Ok e) = (bytes : List ℕ) × (environment : List NamedText) × IsSortedByName environment × RunsText task bytes (map pair_of environment) e
Does (Count task) (Err undone) = IsUnread undone ⊎ IsUnbegun undone
Does (Exec task) (Ok e) = (bytes : List ℕ) × (environment : List NamedText) × IsSortedByName environment × RunsModule task bytes (map pair_of environment) e
Does (Exec task) (Err undone) = IsUnread undone ⊎ IsUnbegun undone
Does (Imports file) (Ok e) = (bytes : List ℕ) × ListsSo bytes e
Does (Imports file) (Err undone) = IsUnread undone ⊎ IsUnwritten undone
Does (Explain name) done = IsExplained name done

-- The request is carried out so, and this is the exit status of it.
pub record Exits (request : Request) (code : ℕ) : Type 0 where
  pub done : Result RunEnd TaskError
  pub does : Does request done
  pub code_of : code ≡ task_code done
