-- What is seen or counted of a run, in an environment that is in order.
use Rattle.std.specs.Prelude.{ℕ, List, map, Option}
use Rattle.command_line.specs.declared.Task.{Task}
use Rattle.host_texts.specs.NameForms.{pair_of}
use Rattle.host_texts.specs.declared.names.NamedText.{NamedText}
use Rattle.run_report.specs.declared.counts.RunCounts.{RunCounts}
use Rattle.run_report.specs.declared.end.RunEnd.{RunEnd}
use Rattle.run_report.specs.declared.whereabouts.Whereabouts.{Whereabouts}
use Rattle.run_tasks.specs.Runs.{CountsText, RunsScript, RunsText, SeesScript}
use Rattle.task_pages.specs.Environment.{IsSortedByName}

-- this is so in some environment that is in order
pub record InOrder (so : List (List ℕ × List ℕ) → Type 0) : Type 0 where
  pub environment : List NamedText
  pub order : IsSortedByName environment
  pub is : so (map pair_of environment)

-- the task's script is run, and this is seen of where it was
abbrev pub ScriptSeen : Task → RunEnd → Option Whereabouts → Type 0
ScriptSeen task e found = InOrder (λ environment. RunsScript task environment e × SeesScript task environment found)

-- a script of these bytes is run, and this is counted
abbrev pub ScriptCounted : Task → List ℕ → RunEnd → Option RunCounts → Type 0
ScriptCounted task script e counts = InOrder (λ environment. RunsText task script environment e × CountsText task script environment counts)
