-- What the words of a command line give: the first is the program's name.
use Rattle.std.specs.Prelude.{◌≡◌, ℕ, List, [], IsSomeAnd, false, true}
use Rattle.std.specs.List.{list_any}
use Rattle.clap.specs.Words.{IsAmong, Text, fault_of, subcommand_of, takes}
use Rattle.clap.specs.declared.error.kind.ErrorKind.{ErrorKind}
use Rattle.clap.specs.declared.error.kind.ErrorKind.TheVariants.{UnknownArgument}
use Rattle.command_line.specs.Line.{is_file_option, line_app, status_of_kind, text_apart}
use Rattle.command_line.specs.Request.{Asks}
use Rattle.command_line.specs.Spelling.{spelled_line}
use Rattle.command_line.specs.declared.Request.{Request}
use Rattle.run_report.specs.declared.report.FileFault.TheVariants.{CannotWrite}
use Rattle.task_pages.specs.declared.task_error.TaskError.{TaskError}
use Rattle.task_pages.specs.declared.task_error.TaskError.TheVariants.{Arguments, File, NoMemory, ScriptFile, TextApart}
use Rattle.awkwasm.specs.Done.{Exits}

-- clap's rules find nothing wrong with the words, nor help or the version among them
abbrev pub IsFaultless : List Text → Type 0
IsFaultless words = fault_of line_app (spelled_line words) ≡ []

-- clap's rules give this cause for which the words are refused, as that help is asked for
abbrev pub IsCause : List Text → ErrorKind → Type 0
IsCause words cause = IsAmong cause (fault_of line_app (spelled_line words))

-- what such words ask for is carried out, and this is the exit status of it
pub record Carries (words : List Text) (code : ℕ) : Type 0 where
  pub faultless : IsFaultless words
  pub request : Request
  pub asks : IsSomeAnd (subcommand_of line_app (spelled_line words)) (λ found. Asks found.0 found.1 request)
  pub exits : Exits request code

-- the exit status of words that are refused for a cause; not of two mistakes, for which the program has lines of its own
abbrev pub IsStatusOf : ErrorKind → List Text → ℕ → Type 0
IsStatusOf cause words code = (code ≡ status_of_kind cause)
    × (cause ≡ UnknownArgument → (list_any is_file_option words ≡ false) × (text_apart false words ≡ false))

-- the words are not taken, for a cause that they have, and this is the exit status of it
pub record Refuses (words : List Text) (code : ℕ) : Type 0 where
  pub cause : ErrorKind
  pub has : IsCause words cause
  pub status : IsStatusOf cause words code
  pub not_taken : takes line_app (spelled_line words) ≡ true → ⊥

-- Why words that are refused for a cause have no such status: the two mistakes, the first one first; the text of help or of the version is not printed; or
-- memory ran out.
abbrev pub IsToldFor : ErrorKind → List Text → TaskError → Type 0
IsToldFor cause words ScriptFile = (cause ≡ UnknownArgument) × (list_any is_file_option words ≡ true)
IsToldFor cause words TextApart = (cause ≡ UnknownArgument) × (list_any is_file_option words ≡ false) × (text_apart false words ≡ true)
IsToldFor cause words (File fault) = (status_of_kind cause ≡ 0) × (fault ≡ CannotWrite)
IsToldFor cause words NoMemory = Unit {0}
IsToldFor cause words _ = ⊥

-- why words have neither: so for a cause that they have, or memory ran out
abbrev pub IsToldApart : List Text → TaskError → Type 0
IsToldApart words NoMemory = Unit {0}
IsToldApart words undone = (cause : ErrorKind) × IsCause words cause × IsToldFor cause words undone

-- there are no words: an argument is no text
abbrev pub IsWordless : TaskError → Type 0
IsWordless Arguments = Unit {0}
IsWordless NoMemory = Unit {0}
IsWordless _ = ⊥
