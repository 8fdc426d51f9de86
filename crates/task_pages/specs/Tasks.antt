-- What is told of a task: the line and the exit status where it is not done, and the status of each.
use Rattle.std.specs.Prelude.{ℕ, List, Result, Ok, Err, codes}
use Rattle.wasm_model.specs.declared.fault.LinkFault.TheVariants.{BadImport}
use Rattle.task_pages.specs.Calls.{IsUnlisted}
use Rattle.task_pages.specs.declared.checks.Unlisted.TheVariants as unlisted
use Rattle.run_report.specs.declared.end.Refusal.TheVariants.{Decode, Invalid, Link}
use Rattle.run_report.specs.declared.end.RunEnd.{RunEnd}
use Rattle.run_report.specs.declared.end.RunEnd.TheVariants.{Refused}
use Rattle.run_report.specs.declared.end.RunEnd.TheVariants as end
use Rattle.run_report.specs.EndTexts.{end_text, exit_code, file_text}
use Rattle.task_pages.specs.declared.task_error.TaskError.{TaskError}
use Rattle.task_pages.specs.declared.task_error.TaskError.TheVariants.{Arguments, File, NoMemory, RandomNumbers, ScriptFile, TextApart, Unexplained}

-- what is told of a module whose imports are not listed: what is told of it where it is run
abbrev pub IsUnreadable : List ℕ → RunEnd → Type 0
IsUnreadable bytes (Refused (Decode fault)) = IsUnlisted bytes (unlisted.Decode fault)
IsUnreadable bytes (Refused (Invalid fault)) = IsUnlisted bytes (unlisted.Invalid fault)
IsUnreadable bytes (Refused (Link (BadImport place))) = IsUnlisted bytes (unlisted.BadImport place)
IsUnreadable bytes end.NoMemory = Unit {0}
IsUnreadable bytes _ = ⊥

-- one line, whatever the cause
abbrev pub undone_text : TaskError → List ℕ
undone_text (File fault) = file_text fault
undone_text Arguments = codes "awkwasm: an argument is not UTF-8\n"
undone_text RandomNumbers = codes "awkwasm: the system gives no random numbers\n"
undone_text ScriptFile = codes "awkwasm: no option -f: give the file's text, as awkwasm run \"$(cat prog.awk)\" .., or compile it and then exec\n"
undone_text TextApart = codes "awkwasm: attach a text that begins with a hyphen to its option: -F-x in place of -F -x\n"
undone_text Unexplained = codes "awkwasm: no such name; awkwasm explain lists the names\n"
undone_text NoMemory = end_text end.NoMemory

abbrev pub undone_code : TaskError → ℕ
undone_code (File fault) = 8
undone_code Arguments = 8
undone_code RandomNumbers = 8
undone_code ScriptFile = 8
undone_code TextApart = 8
undone_code Unexplained = 8
undone_code NoMemory = 5

abbrev pub task_code : Result RunEnd TaskError → ℕ
task_code (Ok e) = exit_code e
task_code (Err undone) = undone_code undone
