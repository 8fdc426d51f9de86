-- What commands answer that compile and run nothing, and why a task is not done.
use Rattle.std.specs.Prelude.{◌≡◌, ◌⊎◌, ℕ, List, MatchOption, Option, None, Result, Ok, Err}
use Rattle.std.specs.Borrow.{Bor}
use Rattle.host_imports.specs.declared.import.Import.{Import}
use Rattle.run_report.specs.Topics.{named}
use Rattle.run_report.specs.declared.end.RunEnd.{RunEnd}
use Rattle.run_report.specs.declared.end.RunEnd.TheVariants.{Ended}
use Rattle.run_report.specs.declared.report.FileFault.TheVariants.{CannotRead, CannotWrite}
use Rattle.task_pages.specs.Calls.{HasImports}
use Rattle.task_pages.specs.Explained.{IsExplanation}
use Rattle.task_pages.specs.Tasks.{IsUnreadable}
use Rattle.task_pages.specs.declared.task_error.TaskError.{TaskError}
use Rattle.task_pages.specs.declared.task_error.TaskError.TheVariants.{File, NoMemory, RandomNumbers, Unexplained}

-- a run does not begin
abbrev pub IsUnbegun : TaskError → Type 0
IsUnbegun RandomNumbers = Unit {0}
IsUnbegun NoMemory = Unit {0}
IsUnbegun _ = ⊥

-- a file is not read
abbrev pub IsUnread : TaskError → Type 0
IsUnread (File fault) = fault ≡ CannotRead
IsUnread NoMemory = Unit {0}
IsUnread _ = ⊥

-- a file, or the standard output, is not written
abbrev pub IsUnwritten : TaskError → Type 0
IsUnwritten (File fault) = fault ≡ CannotWrite
IsUnwritten NoMemory = Unit {0}
IsUnwritten _ = ⊥

-- The bytes are a module whose imports are listed, and the answer is status 0; else it is why they are not listed.
abbrev pub ListsSo : List ℕ → RunEnd → Type 0
ListsSo bytes e = ((e ≡ Ended 0) × ((imports : List Import) × HasImports bytes imports)) ⊎ IsUnreadable bytes e

-- why nothing is explained: no topic is found by the name, or it is not printed
abbrev pub IsNotExplained : Option (Bor (List ℕ)) → TaskError → Type 0
IsNotExplained name Unexplained = MatchOption name ⊥ (λ asked. named asked.now ≡ None)
IsNotExplained name (File fault) = fault ≡ CannotWrite
IsNotExplained name NoMemory = Unit {0}
IsNotExplained name _ = ⊥

-- status 0 only where there is something to print
abbrev pub IsExplained : Option (Bor (List ℕ)) → Result RunEnd TaskError → Type 0
IsExplained name (Ok e) = (e ≡ Ended 0) × ((text : List ℕ) × IsExplanation name text)
IsExplained name (Err undone) = IsNotExplained name undone

-- of a run that was counted, how it ended
abbrev pub end_of : {A : Type 0} → Result (RunEnd × A) TaskError → Result RunEnd TaskError
end_of (Ok r) = Ok r.0
end_of (Err undone) = Err undone
