-- The command line of awkwasm, as the words of clap's specification say it.
use Rattle.std.specs.Prelude.{ℕ, ◌≡◌, ◌==◌, ◌^◌, ◌-◌, ◌&&◌, ◌||◌, List, [], ◌∷◌, Bool, Option, Some, None, true, false, codes, if◌then◌else◌, slice_get}
use Rattle.std.specs.Borrow.{Bor}
use Rattle.std.specs.List.{list_any, starts_with}
use Rattle.std.specs.Str.{bytes_eq}
use Rattle.clap.specs.Words.{App, Rule, Text, app_of, new_app, new_rule, with_rule, with_subcommand}
use Rattle.clap.specs.Simple.{on_top}
use Rattle.clap.specs.declared.builder.command.Command.{Command}
use Rattle.clap.specs.declared.builder.command.Command.TheViews.{out-Command as fields_of}
use Rattle.clap.specs.declared.builder.action.ArgAction.TheVariants.{Set, Append, SetTrue}
use Rattle.clap.specs.declared.error.kind.ErrorKind.{ErrorKind}
use Rattle.clap.specs.declared.error.kind.ErrorKind.TheVariants.{DisplayHelp, DisplayVersion, OutOfMemory}
use Rattle.clap.specs.declared.builder.value_parser.ValueParser.TheVariants.{Unsigned}
use Rattle.command_line.specs.declared.Named.{Named}
use Rattle.command_line.specs.declared.Named.TheVariants.{Run, Count, Exec, Other}

-- a command of this kind, none of whose arguments is one of its subcommands, too
pub record Builds (app : App) (c : Command) : Type 0 where
  pub is : app_of c ≡ app
  pub local : (fields_of c).has_globals ≡ false

-- one word that must be there
abbrev pub single : Text → Rule
single id = record (new_rule id) { required = true; action = Some Set }

-- `-F s`, any number of times
abbrev pub separator_rule : Rule
separator_rule = record (new_rule (codes "separator")) { short = Some 70; action = Some Append; value_names = 1 }

-- `-v name=text`, any number of times
abbrev pub assign_rule : Rule
assign_rule = record (new_rule (codes "assign")) { short = Some 118; action = Some Append; value_names = 1 }

-- an option with a number of 64 bits, as `--steps N`
abbrev pub number_rule : Text → Rule
number_rule name = record (new_rule name) { long = Some name; action = Some Set; value_names = 1; parser = Some (Unsigned 0 (2 ^ 64 - 1)) }

-- an option with a name, as `--may-read NAME`, any number of times
abbrev pub names_rule : Text → Rule
names_rule name = record (new_rule name) { long = Some name; action = Some Append; value_names = 1 }

-- an option without a value, as `--no-files`
abbrev pub flag_rule : Text → Rule
flag_rule name = record (new_rule name) { long = Some name; action = Some SetTrue }

abbrev pub words_rule : Rule
words_rule = record (new_rule (codes "words")) { action = Some Append }

-- one word that may be there
abbrev pub topic_rule : Rule
topic_rule = record (new_rule (codes "name")) { action = Some Set }

-- `compile [--lines] SCRIPTFILE OUT`
abbrev pub compile_app : App
compile_app = with_rule (with_rule (with_rule (new_app (codes "compile")) (single (codes "scriptfile"))) (single (codes "out"))) (flag_rule (codes "lines"))

-- `check SCRIPTFILE`
abbrev pub check_app : App
check_app = with_rule (new_app (codes "check")) (single (codes "scriptfile"))

-- `NAME [-F s] [-v n=t].. [--steps N]`
abbrev pub options_app : Text → App
options_app name = with_rule (with_rule (with_rule (new_app name) separator_rule) assign_rule) (number_rule (codes "steps"))

-- `NAME [-F s] [-v n=t].. [--steps N] [--no-files] [--read-only] [--only-operands]`
abbrev pub fences_app : Text → App
fences_app name = with_rule (with_rule (with_rule (options_app name) (flag_rule (codes "no-files"))) (flag_rule (codes "read-only")))
    (flag_rule (codes "only-operands"))

-- and `[--may-read NAME].. [--may-write NAME]..`
abbrev pub names_app : Text → App
names_app name = with_rule (with_rule (fences_app name) (names_rule (codes "may-read"))) (names_rule (codes "may-write"))

-- and `[--most-input BYTES] [--most-output BYTES] [--streams]`
abbrev pub limits_app : Text → App
limits_app name = with_rule (with_rule (with_rule (names_app name) (number_rule (codes "most-input"))) (number_rule (codes "most-output"))) (flag_rule (codes "streams"))

-- all these options, and then `SUBJECT WORDS..`
abbrev pub task_app : Text → Text → App
task_app name subject = with_rule (with_rule (limits_app name) (single subject)) words_rule

-- `run`, with `[--where] [--stats]`
abbrev pub run_app : App
run_app = with_rule (with_rule (task_app (codes "run") (codes "script")) (flag_rule (codes "where"))) (flag_rule (codes "stats"))

-- `count [..] SCRIPTFILE WORDS..`
abbrev pub count_app : App
count_app = task_app (codes "count") (codes "scriptfile")

-- `exec`, with `[--where]`
abbrev pub exec_app : App
exec_app = with_rule (task_app (codes "exec") (codes "module")) (flag_rule (codes "where"))

-- `imports MODULE`
abbrev pub imports_app : App
imports_app = with_rule (new_app (codes "imports")) (single (codes "module"))

-- `explain [NAME]`
abbrev pub explain_app : App
explain_app = with_rule (new_app (codes "explain")) topic_rule

-- the line's own settings: a subcommand is wanted, and `--version` is known
abbrev pub top_app : App
top_app = on_top (λ s. record s { has_version = true; subcommand_required = true }) (new_app (codes "awkwasm"))

-- the whole line
abbrev pub line_app : App
line_app =
    with_subcommand (with_subcommand (with_subcommand (with_subcommand (with_subcommand (with_subcommand (with_subcommand top_app compile_app.top) check_app.top)
    run_app.top) count_app.top) exec_app.top) imports_app.top) explain_app.top

-- The line as it is built for a command that the words name: of the commands with many arguments the others have none.

abbrev pub named_by : Text → Named
named_by word = if bytes_eq word (codes "run") then Run else if bytes_eq word (codes "count") then Count else if bytes_eq word (codes "exec") then Exec else Other

abbrev pub named_word : Option (Bor Text) → Named
named_word (Some word) = named_by word.now
named_word None = Other

-- by the first word after the program's name
abbrev pub named_in : List (Bor Text) → Named
named_in words = named_word (slice_get words 1)

abbrev pub run_in : Named → App
run_in Run = run_app
run_in Other = run_app
run_in _ = new_app (codes "run")

abbrev pub count_in : Named → App
count_in Count = count_app
count_in Other = count_app
count_in _ = new_app (codes "count")

abbrev pub exec_in : Named → App
exec_in Exec = exec_app
exec_in Other = exec_app
exec_in _ = new_app (codes "exec")

abbrev pub line_for : Named → App
line_for named =
    with_subcommand (with_subcommand (with_subcommand (with_subcommand (with_subcommand (with_subcommand (with_subcommand top_app compile_app.top) check_app.top)
    (run_in named).top) (count_in named).top) (exec_in named).top) imports_app.top) explain_app.top

-- the exit status of a line that asks for nothing
abbrev pub status_of_kind : ErrorKind → ℕ
status_of_kind DisplayHelp = 0
status_of_kind DisplayVersion = 0
status_of_kind OutOfMemory = 5
status_of_kind _ = 8

-- the option of other awks that names a script's file
abbrev pub is_file_option : Text → Bool
is_file_option word = starts_with ◌==◌ word (codes "-f")

abbrev pub has_file_option : List (Bor Text) → Bool
has_file_option words = list_any (λ word. is_file_option word.now) words

-- an option of one letter whose text may be the next word
abbrev pub takes_text : Text → Bool
takes_text word = bytes_eq word (codes "-F") || bytes_eq word (codes "-v")

-- A word begins with a hyphen and comes after such an option: clap reads it as an option. The first says whether such an option came before the words.
unfoldable pub text_apart : Bool → List Text → Bool
text_apart waits [] = false
text_apart waits (word ∷ rest) = (waits && starts_with ◌==◌ word (codes "-")) || text_apart (takes_text word) rest
