-- What `imports` prints, and what is told of a task.
use Rattle.std.specs.Prelude.{ℕ, List, [], ◌∷◌, ◌++◌, Option, Result, Ok, Err, codes}
use Rattle.std.specs.Io.KnownBytes.{Appends}
use Rattle.host_imports.specs.Names.{import_name}
use Rattle.host_imports.specs.declared.import.Import.{Import}
use Rattle.run_report.specs.EndTexts.{end_text}
use Rattle.run_report.specs.declared.end.RunEnd.{RunEnd}
use Rattle.task_pages.specs.Calls.{HasImports}
use Rattle.task_pages.specs.Powers.{reads_of, writes_of}
use Rattle.task_pages.specs.Tasks.{undone_text}
use Rattle.task_pages.specs.declared.task_error.TaskError.{TaskError}
use Rattle.task_pages.specs.declared.powers.Reads.{Reads}
use Rattle.task_pages.specs.declared.powers.Reads.TheVariants as reading
use Rattle.task_pages.specs.declared.powers.Writes.{Writes}
use Rattle.task_pages.specs.declared.powers.Writes.TheVariants as writing

abbrev pub reads_text : Reads → List ℕ
reads_text reading.Nothing = codes "reads nothing"
reads_text reading.Operands = codes "reads the operands and the standard input, and no other file"
reads_text reading.AnyName = codes "may read any file by its name"

abbrev pub writes_text : Writes → List ℕ
writes_text writing.Nothing = codes "writes nothing"
writes_text writing.AnyName = codes "may write to the standard output, and to any file by its name"

-- a line of each text
abbrev pub line : List ℕ → List ℕ
line text = text ++ codes "\n"

-- the names of the imports, a line each
abbrev pub names_text : List Import → List ℕ
names_text [] = []
names_text (import ∷ rest) = line (import_name import) ++ names_text rest

-- the names, an empty line, and what the module may read and write
abbrev pub imports_text : List Import → List ℕ
imports_text imports = names_text imports ++ line [] ++ line (reads_text (reads_of imports)) ++ line (writes_text (writes_of imports))

-- the imports of the module are printed: a writer's bytes grow by that text
pub record PrintsImports (bytes : List ℕ) (old new : Option (List ℕ)) : Type 0 where
  pub imports : List Import
  pub has : HasImports bytes imports
  pub printed : Appends old new (imports_text imports)

-- what is told of a task: the line of how its run ended, empty for a status of its own, or that of why it is not done
abbrev pub told_text : Result RunEnd TaskError → List ℕ
told_text (Ok e) = end_text e
told_text (Err undone) = undone_text undone
