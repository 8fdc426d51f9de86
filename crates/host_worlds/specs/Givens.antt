-- What reading comes to, by what the definition gives.
use Rattle.std.specs.Prelude.{◌≡◌, ℕ, ◌+◌, ◌*◌, ◌-◌, ◌<◌, List, Bool, false, Option, Some, None, Result, Ok, Err}
use Rattle.awk_values.specs.declared.fault.Fault.{Fault}
use Rattle.awk_values.specs.declared.fault.Fault.TheVariants.{OpenInput, ReadFailed}
use Rattle.awk_values.specs.declared.fault.Stop.{Stop}
use Rattle.awk_values.specs.declared.fault.Stop.TheVariants.{Fault as IsFault, NoMemory}
use Rattle.world_core.specs.WorldState.{Outside}
use Rattle.sem_primitives.specs.InputMeaning.{as_line, as_record, getline_of, next_of}
use Rattle.sem_primitives.specs.Rows.{getline_line_file_row, getline_file_row, getline_line_row, getline_row, next_main_row}
use Rattle.sem_primitives.specs.MainInput.{main_input}
use Rattle.sem_primitives.specs.InputParts.{Main, operand_text}
use Rattle.sem_primitives.specs.InputParts as definition
use Rattle.sem_primitives.specs.Limits.{most_operands}
use Rattle.sem_primitives.specs.SharedState.{Inner}
use Rattle.sem_primitives.specs.declared.answers.InputAnswer.{InputAnswer}
use Rattle.sem_primitives.specs.declared.answers.InputAnswer.TheVariants as input
use Rattle.sem_primitives.specs.declared.table.Primitive.{Primitive}
use Rattle.sem_primitives.specs.declared.table.Primitive.TheVariants as row
use Rattle.awk_values.specs.declared.value.Value.{Value}
use Rattle.host_streams.specs.declared.reader.FileNext.{FileNext}
use Rattle.host_streams.specs.declared.reader.FileNext.TheVariants as file
use Rattle.host_streams.specs.declared.main_input.Found.{Found}
use Rattle.host_streams.specs.declared.main_input.Found.TheVariants as found
use Rattle.host_streams.specs.declared.main_input.MainInput.{MainInput as Mains}
use Rattle.host_streams.specs.declared.main_input.MainNext.{MainNext}
use Rattle.host_streams.specs.declared.main_input.MainNext.TheVariants.{Assign, Opened}
use Rattle.host_worlds.specs.declared.input.Given.{Given}
use Rattle.host_worlds.specs.declared.input.Given.TheVariants as given
use Rattle.host_worlds.specs.declared.input.ReadInto.{ReadInto}
use Rattle.host_worlds.specs.declared.input.ReadInto.TheVariants.{Record, Variable}
use Rattle.host_worlds.specs.declared.input.MainRead.{MainRead}
use Rattle.host_worlds.specs.declared.input.MainRead.TheVariants.{Loop, Getline}

-- these are the texts of the operands
abbrev pub OffersTexts : (ℕ → List ℕ) → Inner → Type 0
OffersTexts texts inner = (n : ℕ) → operand_text n inner ≡ texts n

abbrev pub main_of_given : Given → Main
main_of_given (given.Taken text) = definition.Taken text
main_of_given given.Over = definition.Over
main_of_given given.Pending = definition.Pending
main_of_given given.NotOpened = definition.NotOpened
main_of_given given.Failed = definition.Failed

-- what the definition gives is this, or this fault
abbrev pub GivesMain : Result (Inner × Main) Fault → Result Given Stop → Inner → Type 0
GivesMain wanted (Ok g) new = wanted ≡ Ok (new, main_of_given g)
GivesMain wanted (Err (IsFault fault)) new = wanted ≡ Err fault
GivesMain wanted (Err NoMemory) new = Unit {0}

-- the same of one turn, after which there may be nothing yet
abbrev pub TurnGives : Result (Inner × Main) Fault → Result (Option Given) Stop → Outside → Inner → Type 0
TurnGives wanted (Ok None) outside new = wanted ≡ main_input outside new
TurnGives wanted (Ok (Some g)) outside new = GivesMain wanted (Ok g) new
TurnGives wanted (Err stop) outside new = GivesMain wanted (Err stop) new

-- a file that does not open, or does not read, is told; any other fault stops
abbrev pub faulted_by : Fault → Result (Option Given) Stop
faulted_by OpenInput = Ok (Some given.NotOpened)
faulted_by ReadFailed = Ok (Some given.Failed)
faulted_by fault = Err (IsFault fault)

abbrev pub stopped_by : Stop → Result (Option Given) Stop
stopped_by (IsFault fault) = faulted_by fault
stopped_by NoMemory = Err NoMemory

-- how much is left to do: operands, and the standard input after them
abbrev pub may_follow : Found → ℕ
may_follow found.NoneLeft = 0
may_follow found.NoFile = 1
may_follow found.SomeFile = 1

abbrev pub left_to_open : Mains → ℕ
left_to_open m = 2 * (most_operands + 1 - m.next) + may_follow m.found

-- an operand that is told has less after it
abbrev pub NextPasses : Mains → Result MainNext Stop → Mains → Type 0
NextPasses old (Ok (Assign name text)) new = left_to_open new < left_to_open old
NextPasses old (Ok (Opened name)) new = left_to_open new < left_to_open old
NextPasses old answer new = Unit {0}

-- it is told before the end
abbrev pub AssignLive : Result MainNext Stop → Mains → Type 0
AssignLive (Ok (Assign name text)) m = m.ended ≡ false
AssignLive answer m = Unit {0}

abbrev pub TurnPasses : Mains → Result (Option Given) Stop → Mains → Type 0
TurnPasses old (Ok None) new = left_to_open new < left_to_open old
TurnPasses old answer new = Unit {0}

-- where a record goes
abbrev pub kept_by : ReadInto → List ℕ → Inner → Result (Inner × InputAnswer) Fault
kept_by Record text inner = as_record text inner
kept_by Variable text inner = as_line text inner

-- what an import answers to what the main input gives
abbrev pub answer_of : MainRead → Inner × Main → Result (Inner × InputAnswer) Fault
answer_of Loop x = next_of x
answer_of (Getline to) x = getline_of (kept_by to) x

-- what an import answers where a file does not open, or does not read
abbrev pub failed_by : MainRead → Fault → Result InputAnswer Stop
failed_by Loop fault = Err (IsFault fault)
failed_by (Getline to) fault = Ok input.Failed

-- in the actions of END getline reads nothing
abbrev pub is_over : MainRead → Bool → Bool
is_over Loop in_end = false
is_over (Getline to) in_end = in_end

-- the imports

abbrev pub main_primitive : MainRead → Primitive
main_primitive Loop = row.NextMain
main_primitive (Getline Record) = row.Getline
main_primitive (Getline Variable) = row.GetlineVar

abbrev pub main_row : MainRead → Outside → Inner → Result (Inner × InputAnswer) Fault
main_row Loop outside inner = next_main_row outside inner
main_row (Getline Record) outside inner = getline_row outside inner
main_row (Getline Variable) outside inner = getline_line_row outside inner

abbrev pub file_primitive : ReadInto → Primitive
file_primitive Record = row.GetlineFile
file_primitive Variable = row.GetlineVarFile

abbrev pub file_row : ReadInto → Value → Outside → Inner → Result (Inner × InputAnswer) Fault
file_row Record name outside inner = getline_file_row name outside inner
file_row Variable name outside inner = getline_line_file_row name outside inner

-- what reading a file gives, where a record is kept so
abbrev pub FileGives : Result (Inner × InputAnswer) Fault → (List ℕ → Inner → Result (Inner × InputAnswer) Fault) → Result FileNext Stop → Inner → Type 0
FileGives wanted keep (Ok (file.Record text)) new = wanted ≡ keep text new
FileGives wanted keep (Ok file.End) new = wanted ≡ Ok (new, input.End)
FileGives wanted keep (Ok file.Failed) new = wanted ≡ Ok (new, input.Failed)
FileGives wanted keep (Err (IsFault fault)) new = wanted ≡ Err fault
FileGives wanted keep (Err NoMemory) new = Unit {0}

-- an import's row of the table comes to this answer and leaves this state, or to this fault
abbrev pub RowGives : Result (Inner × InputAnswer) Fault → Result InputAnswer Stop → Inner → Type 0
RowGives wanted (Ok answer) new = wanted ≡ Ok (new, answer)
RowGives wanted (Err (IsFault fault)) new = wanted ≡ Err fault
RowGives wanted (Err NoMemory) new = Unit {0}
