-- The main input in an environment that others change too: each time that something is opened or read, the next of a list is found there. It speaks of every
-- world, since what a world answers is what is found.
use Rattle.std.specs.Prelude.{◌≡◌, ℕ, List, [], ◌∷◌, ◌++◌, Option, Some, None, Result, Ok, Err, true}
use Rattle.awk_values.specs.declared.fault.Fault.{Fault}
use Rattle.awk_values.specs.declared.fault.Fault.TheVariants.{OpenInput, ReadFailed}
use Rattle.awk_values.specs.declared.fault.Stop.{Stop}
use Rattle.awk_values.specs.declared.fault.Stop.TheVariants.{Fault as IsFault, NoMemory}
use Rattle.awk_values.specs.declared.value.Value.{Value}
use Rattle.world_core.specs.WorldState.{Entry, Outside, Source}
use Rattle.sem_primitives.specs.Finds.{shut}
use Rattle.sem_primitives.specs.MainInput.{follows, main_input, taken}
use Rattle.sem_primitives.specs.InputParts.{Main, NotOpened, Failed as ReadingFailed, to_come}
use Rattle.sem_primitives.specs.SharedState.{Inner, MainInput, MainReader, Standard, File}
use Rattle.host_streams.specs.declared.main_input.MainInput.{MainInput as Mains}
use Rattle.host_streams.specs.declared.main_input.MainNext.{MainNext}
use Rattle.host_streams.specs.declared.main_input.MainNext.TheVariants.{Opened}
use Rattle.host_streams.specs.declared.main_input.Reading.{Reading}
use Rattle.host_streams.specs.declared.main_input.Reading.TheVariants as reading
use Rattle.host_streams.specs.declared.reader.Reader.{Reader}
use Rattle.host_streams.specs.Mains.{GivenIs, IsAsked, IsOffered, left_main, main_of, passed, phase_at, reading_of, rest_of, with_main}
use Rattle.host_streams.specs.Passing.{kept_at}
use Rattle.host_streams.specs.Readers.{coming, left, left_in}

-- What readers have left where nothing is known of what the world has for them, but that something is to come: after an end, or a failure, nothing is.
abbrev pub reading_found : Reading → Option MainReader
reading_found reading = reading_of reading coming

abbrev pub main_found : Mains → MainInput
main_found m = main_of m coming

-- the reader at hand, and what it has left
abbrev pub reader_at : Reading → MainReader
reader_at reading.Nothing = Standard
reader_at reading.Standard = Standard
reader_at (reading.File r) = File (left r to_come)

abbrev pub left_at : Reading → Reader → Source
left_at reading standard = left_in (phase_at reading standard) (kept_at reading standard) to_come

-- the same main input, where the reader at hand has left what it has after a read
abbrev pub left_found : Mains → Reading → Reader → MainInput
left_found m reading standard = left_main (reader_at m.reading) (left_at reading standard) (main_found m)

-- these are found
abbrev pub found_in : List Entry → Inner → Inner
found_in finds inner = record inner { finds = Some finds }

abbrev pub main_finding : List Entry → Mains → Inner → Inner
main_finding finds m inner = with_main (main_found m) (found_in finds inner)

-- A file that does not open, or does not read; any other fault takes nothing of what is found.
abbrev pub FaultFound : Result (Inner × Main) Fault → Fault → Inner → Type 0
FaultFound given OpenInput new = given ≡ Ok (new, NotOpened)
FaultFound given ReadFailed new = given ≡ Ok (new, ReadingFailed)
FaultFound given fault new = given ≡ Err fault

-- how what is to be given follows from what the definition gives after the call
abbrev pub StepFound : Result (Inner × Main) Fault → Result (Option MainNext) Stop → Outside → Inner → Type 0
StepFound given (Ok answer) outside new = GivenIs given (Ok answer) outside new new
StepFound given (Err (IsFault fault)) outside new = FaultFound given fault new
StepFound given (Err NoMemory) outside new = Unit {0}

-- an answer is that of a step
abbrev pub as_step : Result MainNext Stop → Result (Option MainNext) Stop
as_step (Ok answer) = Ok (Some answer)
as_step (Err stop) = Err stop

-- what is found where these bytes are read
abbrev pub entry_of : Source → Entry
entry_of source = record { bytes = Some source.rest; ending = source.ending; room = None; opens = true }

-- what is found by an operand
abbrev pub entry_of_reading : Reading → Entry
entry_of_reading (reading.File r) = entry_of (left r to_come)
entry_of_reading r = shut

abbrev pub found_by_name : List ℕ → Reading → List Entry
found_by_name [] r = []
found_by_name (c ∷ cs) r = entry_of_reading r ∷ []

abbrev pub found_by_operand : Result (Option MainNext) Stop → Reading → List Entry
found_by_operand (Ok (Some (Opened name))) r = found_by_name name r
found_by_operand (Err (IsFault OpenInput)) r = shut ∷ []
found_by_operand answer r = []

-- Something is found, whatever is found later, where the step gives what the definition does.
abbrev pub FindsStep : Option ℕ → Value → (ℕ → List ℕ) → Mains → Result (Option MainNext) Stop → Mains → Type 0
FindsStep rs argc texts old answer new = (found : List Entry) × ((later : List Entry) (outside : Outside) (inner : Inner)
    → IsAsked rs inner → IsOffered argc texts inner
    → StepFound (main_input outside (main_finding (found ++ later) old inner)) answer outside (main_finding later new inner))

-- the same of the reader at hand, of what follows the operands, and of the operand at hand
abbrev pub FindsSomeOn : Option ℕ → Mains → Result (Option MainNext) Stop → Mains → Type 0
FindsSomeOn rs old answer new = (found : List Entry) × ((later : List Entry) (outside : Outside) (inner : Inner) → IsAsked rs inner
    → StepFound (main_input outside (main_finding (found ++ later) old inner)) answer outside (main_finding later new inner))

abbrev pub FindsReach : Value → (ℕ → List ℕ) → Mains → Result (Option MainNext) Stop → Mains → Type 0
FindsReach argc texts old answer new =
    (later : List Entry) (outside : Outside) (inner : Inner) → IsOffered argc texts inner
    → StepFound (main_input outside (main_finding (found_by_operand answer new.reading ++ later) old inner)) answer outside (main_finding later new inner)

abbrev pub FindsFollowing : Mains → Result (Option MainNext) Stop → Mains → Type 0
FindsFollowing old answer new =
    (later : List Entry) (outside : Outside) (inner : Inner)
    → StepFound (follows (main_found old).operands (main_finding later old inner)) answer outside (main_finding later new inner)

abbrev pub FindsOperand : List ℕ → Mains → Result (Option MainNext) Stop → Mains → Type 0
FindsOperand text old answer new =
    (later : List Entry) (outside : Outside) (inner : Inner)
    → StepFound (taken (rest_of (passed (main_found old)) outside) outside text
    (with_main (passed (main_found old)) (found_in (found_by_operand answer new.reading ++ later) inner))) answer outside (main_finding later new inner)

-- Something is found, whatever is found later, where the answer is what the definition of the main input gives, for this RS, this ARGC and these elements
-- of ARGV.
abbrev pub FindsMain : Option ℕ → Value → (ℕ → List ℕ) → Mains → Result MainNext Stop → Mains → Type 0
FindsMain rs argc texts old answer new = FindsStep rs argc texts old (as_step answer) new
