-- The main input, as the definition has it.
use Rattle.std.specs.Prelude.{◌≡◌, ◌≢◌, ℕ, ◌⊎◌, ◌+◌, ◌*◌, ◌-◌, ◌^◌, ◌<◌, ◌≤◌, ◌==◌, ◌&&◌, ◌%◌, nat_le, ℤ, List, [], ◌∷◌, length, take, drop, Bool, true, false, Option, Some, None, Result, Ok, Err, pos}
use Rattle.awk_values.specs.declared.fault.Fault.{Fault}
use Rattle.awk_values.specs.declared.fault.Fault.TheVariants.{Fraction, OpenInput, Range, ReadFailed, TextLimit}
use Rattle.awk_values.specs.declared.fault.Stop.{Stop}
use Rattle.awk_values.specs.declared.fault.Stop.TheVariants.{Fault as IsFault, NoMemory}
use Rattle.awk_values.specs.declared.value.Value.{Value}
use Rattle.awk_values.specs.declared.value.Value.TheVariants.{Num, StrNum}
use Rattle.world_core.specs.WorldState.{Outside, Source, State}
use Rattle.world_core.specs.Calls.{Kind, Closed, Reading as IsReading}
use Rattle.sem_primitives.specs.Assignments.{assigned, assignment_of, begins_name}
use Rattle.sem_primitives.specs.FieldMeaning.{special_text}
use Rattle.sem_primitives.specs.Rows.{next_file_row}
use Rattle.sem_primitives.specs.MainInput.{main_input, made, reach, taken}
use Rattle.sem_primitives.specs.InputParts.{Main, Taken, Over, NotOpened, Failed as ReadingFailed, is_below, operand_text}
use Rattle.sem_primitives.specs.Limits.{most_operands}
use Rattle.sem_primitives.specs.Records.{record_separator}
use Rattle.sem_primitives.specs.SharedState.{Inner, MainInput, MainReader, Standard, File, Operands, NoFile, SomeFile, NoneLeft, ◌>>=◌, with_special}
use Rattle.sem_primitives.specs.declared.constants.Special.TheVariants.{Argc, Filename, Fnr, Rs}
use Rattle.host_streams.specs.declared.main_input.Found.{Found}
use Rattle.host_streams.specs.declared.main_input.Found.TheVariants as found
use Rattle.host_streams.specs.declared.main_input.MainNext.{MainNext}
use Rattle.host_streams.specs.declared.main_input.MainNext.TheVariants.{Record, Assign, Opened, End}
use Rattle.host_streams.specs.declared.main_input.MainInput.{MainInput as Mains}
use Rattle.host_streams.specs.declared.main_input.Reading.{Reading}
use Rattle.host_streams.specs.declared.main_input.Reading.TheVariants as reading
use Rattle.host_streams.specs.declared.reader.FileNext.{FileNext}
use Rattle.host_streams.specs.declared.reader.FileNext.TheVariants.{Failed as ReadFails}
use Rattle.host_streams.specs.declared.reader.Phase.{Phase}
use Rattle.host_streams.specs.declared.reader.Phase.TheVariants.{Open, Broken}
use Rattle.host_streams.specs.declared.reader.Reader.{Reader}
use Rattle.host_streams.specs.Readers.{left, Answers, NextCounts}

abbrev pub operands_of : Found → Operands
operands_of found.NoFile = NoFile
operands_of found.SomeFile = SomeFile
operands_of found.NoneLeft = NoneLeft

abbrev pub reading_of : Reading → State → Option MainReader
reading_of reading.Nothing state = None
reading_of reading.Standard state = Some Standard
reading_of (reading.File r) state = Some (File (left r (state.readers r.id)))

-- the main input that the definition speaks of
abbrev pub main_of : Mains → State → MainInput
main_of m state = record {
  standard = left m.standard
      (state.readers m.standard.id);
  next = m.next;
  operands = operands_of m.found;
  reading = reading_of m.reading state;
  ended = m.ended;
}

-- a file that is read is open, and no standard stream
abbrev pub FileIsOpen : Reading → (ℕ → Kind) → Type 0
FileIsOpen reading.Nothing kinds = Unit {0}
FileIsOpen reading.Standard kinds = Unit {0}
FileIsOpen (reading.File r) kinds = (1 < r.id) × (kinds r.id ≡ IsReading)

-- the standard input has failed only where it is read, since nothing else is read after that
abbrev pub StandardIs : Reading → Phase → Type 0
StandardIs reading.Nothing p = p ≢ Broken
StandardIs reading.Standard p = Unit {0}
StandardIs (reading.File r) p = p ≢ Broken

abbrev pub HoldsMain : Mains → (ℕ → Kind) → Type 0
HoldsMain m kinds = (m.standard.id ≡ 0) × FileIsOpen m.reading kinds × StandardIs m.reading m.standard.phase

-- how far the reader at hand is; none is at hand once the end was told
abbrev pub phase_at : Reading → Reader → Phase
phase_at reading.Nothing standard = Open
phase_at reading.Standard standard = standard.phase
phase_at (reading.File r) standard = r.phase

abbrev pub phase_by : Bool → Reading → Reader → Phase
phase_by true reading standard = Open
phase_by false reading standard = phase_at reading standard

abbrev pub main_phase : Mains → Phase
main_phase m = phase_by m.ended m.reading m.standard

-- a failed read is told once the reader at hand is broken, and then for ever
abbrev pub tells_failure : {A : Type 0} → Result A Stop → Bool
tells_failure (Err (IsFault ReadFailed)) = true
tells_failure r = false

abbrev pub PhaseBy : Bool → Phase → Phase → Type 0
PhaseBy true p q = q ≡ Broken
PhaseBy false p q = (p ≢ Broken) × (q ≢ Broken)

abbrev pub MainPhase : {A : Type 0} → Phase → Result A Stop → Phase → Type 0
MainPhase p r q = PhaseBy (tells_failure r) p q

-- a fault that tells of no device
abbrev pub IsOfNumber : Fault → Type 0
IsOfNumber fault = (fault ≡ Range) ⊎ (fault ≡ Fraction)

abbrev pub IsOwn : Fault → Type 0
IsOwn fault = (fault ≡ TextLimit) ⊎ IsOfNumber fault

-- the failures go up by one where a file does not open, and where a reader breaks, and nowhere else; there is no other fault than these and its own
abbrev pub MainCounts : {A : Type 0} → Phase → Result A Stop → ℕ → ℕ → Type 0
MainCounts p (Err (IsFault OpenInput)) n m = m ≡ (n + 1) % 2 ^ 64
MainCounts p (Err (IsFault ReadFailed)) n m = NextCounts p (Ok ReadFails) n m
MainCounts p (Err (IsFault fault)) n m = IsOwn fault × (m ≡ n)
MainCounts p r n m = m ≡ n

-- the end is told once nothing is left, and then for ever
abbrev pub StepEnds : Bool → Result (Option MainNext) Stop → Bool → Type 0
StepEnds was (Ok (Some End)) is = is ≡ true
StepEnds was r is = (was ≡ false) × (is ≡ false)

abbrev pub MainEnds : Bool → Result MainNext Stop → Bool → Type 0
MainEnds was (Ok answer) is = StepEnds was (Ok (Some answer)) is
MainEnds was (Err stop) is = (was ≡ false) × (is ≡ false)

-- a file is opened, or it does not open
abbrev pub OperandCounts : Result Reading Stop → ℕ → ℕ → Type 0
OperandCounts (Ok reading.Nothing) n m = m ≡ (n + 1) % 2 ^ 64
OperandCounts r n m = m ≡ n

abbrev pub IsFresh : Reading → Type 0
IsFresh reading.Nothing = Unit {0}
IsFresh reading.Standard = Unit {0}
IsFresh (reading.File r) = r.phase ≡ Open

-- what is left in the reader at hand
abbrev pub main_source : MainReader → MainInput → Source
main_source Standard m = m.standard
main_source (File source) m = source

abbrev pub left_main : MainReader → Source → MainInput → MainInput
left_main Standard source m = record m { standard = source; reading = Some Standard }
left_main (File s) source m = record m { reading = Some (File source) }

-- the reader at hand gives its next record
pub record ReadsMain (rs : Option ℕ) (old : MainInput) (answer : Result FileNext Stop) (new : MainInput) : Type 0 where
  pub reader : MainReader
  pub reading : old.reading ≡ Some reader
  pub later : Source
  pub answers : Answers rs (main_source reader old) answer later
  pub leaves : new ≡ left_main reader later old

-- a state of the definition with this main input, whatever is found
abbrev pub with_main : MainInput → Inner → Inner
with_main m inner = record inner { main = m }

-- where nobody else changes what names hold
abbrev pub kept_in : Inner → Inner
kept_in inner = record inner { finds = None }

-- RS, ARGC and the operands are these
pub record IsAsked (rs : Option ℕ) (inner : Inner) : Type 0 where
  pub separator : record_separator (special_text Rs inner) ≡ rs

pub record IsOffered (argc : Value) (texts : ℕ → List ℕ) (inner : Inner) : Type 0 where
  pub count : inner.specials Argc ≡ argc
  pub operands : (n : ℕ) → operand_text n inner ≡ texts n

-- whether there may be an operand of this number, where this is ARGC's number
abbrev pub has_operand : ℕ → Result ℤ Fault → Result Bool Fault
has_operand n (Ok count) = Ok (nat_le n most_operands && is_below n count)
has_operand n (Err fault) = Err fault

-- whether bytes that may stand in a name are one
abbrev pub begins : List ℕ → Bool
begins [] = false
begins (c ∷ cs) = begins_name c

abbrev pub is_equals : List ℕ → Bool
is_equals [] = false
is_equals (c ∷ cs) = c == 61

-- how long the name is, where a text is an assignment
abbrev pub NameLen : List ℕ → Option ℕ → Type 0
NameLen text None = assignment_of text ≡ None
NameLen text (Some n) = (n + 1 ≤ length text) × (assignment_of text ≡ Some (take n text, drop (n + 1) text))

-- FILENAME and FNR are set by who is told that an operand is opened
abbrev pub begun : List ℕ → Inner → Inner
begun name inner = with_special Fnr (Num (pos 0)) (with_special Filename (StrNum name) inner)

-- what is given after the operand at hand
abbrev pub rest_of : MainInput → Outside → Inner → Result (Inner × Main) Fault
rest_of m outside inner = reach (most_operands + 1 - m.next) outside inner

-- an operand is passed, or nothing is read any more
abbrev pub passed : MainInput → MainInput
passed m = record m { next = m.next + 1 }

abbrev pub with_file : MainInput → MainInput
with_file m = record m { operands = SomeFile }

abbrev pub idle : MainInput → MainInput
idle m = record m { reading = None }

-- A file that does not open, or does not read; or a fault of the definition, which comes again.
abbrev pub FaultIs : Result (Inner × Main) Fault → Fault → Outside → Inner → Type 0
FaultIs given OpenInput outside new = given ≡ Ok (new, NotOpened)
FaultIs given ReadFailed outside new = given ≡ Ok (new, ReadingFailed)
FaultIs given fault outside new = (given ≡ Err fault) × (main_input outside new ≡ Err fault)

-- How what is to be given follows from what the definition gives after the call; short of memory the same is to be given. Who is told of an
-- assignment makes it, and who is told of a file that was opened sets FILENAME and FNR.
abbrev pub GivenIs : Result (Inner × Main) Fault → Result (Option MainNext) Stop → Outside → Inner → Inner → Type 0
GivenIs given (Ok None) outside old new = given ≡ main_input outside new
GivenIs given (Ok (Some (Record text))) outside old new = given ≡ Ok (new, Taken text)
GivenIs given (Ok (Some (Assign name text))) outside old new = given ≡ (assigned name text new >>= λ x. made (rest_of new.main outside) x)
GivenIs given (Ok (Some (Opened name))) outside old new = given ≡ main_input outside (begun name new)
GivenIs given (Ok (Some End)) outside old new = given ≡ Ok (new, Over)
GivenIs given (Err (IsFault fault)) outside old new = FaultIs given fault outside new
GivenIs given (Err NoMemory) outside old new = main_input outside old ≡ main_input outside new

-- how much there is left to do: operands to be skipped, and a reader to be given up
abbrev pub busy : Reading → ℕ
busy reading.Nothing = 0
busy reading.Standard = 1
busy (reading.File r) = 1

abbrev pub work : Mains → ℕ
work m = 2 * (most_operands + 1 - m.next) + busy m.reading

abbrev pub GoesOn : Result (Option MainNext) Stop → Mains → Mains → Type 0
GoesOn (Ok None) old new = work new < work old
GoesOn r old new = Unit {0}

-- what is given in the end
abbrev pub AnswerIs : Result (Inner × Main) Fault → Result MainNext Stop → Outside → Inner → Inner → Type 0
AnswerIs given (Ok answer) outside old new = GivenIs given (Ok (Some answer)) outside old new
AnswerIs given (Err stop) outside old new = GivenIs given (Err stop) outside old new

-- the main input, over other things of the state
abbrev pub main_in : Mains → State → Inner → Inner
main_in m state inner = with_main (main_of m state) (kept_in inner)

-- a step gives what the definition of the main input does
abbrev pub GivesStep : Inner → Mains → State → Result (Option MainNext) Stop → Mains → State → Type 0
GivesStep inner old before answer new after =
    GivenIs (main_input before.outside (main_in old before inner)) answer before.outside
    (main_in old before inner) (main_in new after inner)

-- the operand at hand is passed, and this text of it gives what the definition does
abbrev pub GivesOperand : List ℕ → Inner → Mains → State → Result (Option MainNext) Stop → Mains → State → Type 0
GivesOperand text inner old before answer new after =
    GivenIs
    (taken (rest_of (passed (main_of old before)) before.outside) before.outside text
    (with_main (passed (main_of old before)) (kept_in inner)))
    answer before.outside (main_in old before inner) (main_in new after inner)

-- The answer is what the definition of the main input gives, for this RS, this ARGC and these elements of ARGV.
abbrev pub GivesMain : Option ℕ → Value → (ℕ → List ℕ) → Mains → State → Result MainNext Stop → Mains → State → Type 0
GivesMain rs argc texts old before answer new after =
    (inner : Inner) → IsAsked rs inner → IsOffered argc texts inner
    → AnswerIs (main_input before.outside (main_in old before inner)) answer before.outside
    (main_in old before inner) (main_in new after inner)

-- the rest of what is read is given up, as `nextfile` does
abbrev pub SkipsMain : Mains → State → Mains → State → Type 0
SkipsMain old before new after =
    (inner : Inner) → next_file_row (main_in old before inner) ≡ (main_in new after inner, tt)

-- before anything is read
abbrev pub main_at_start : Source → MainInput
main_at_start input = record { standard = input; next = 1; operands = NoFile; reading = None; ended = false }

-- a stream is not the file that is read
abbrev pub IsApartFrom : ℕ → Reading → Type 0
IsApartFrom k reading.Nothing = Unit {0}
IsApartFrom k reading.Standard = Unit {0}
IsApartFrom k (reading.File r) = k ≢ r.id

-- every other stream that is open stays so
abbrev pub SparesKinds : Reading → Reading → (ℕ → Kind) → (ℕ → Kind) → Type 0
SparesKinds was is old new = (k : ℕ) → IsApartFrom k was → old k ≢ Closed → (new k ≡ old k) × IsApartFrom k is

abbrev pub SparesOthers : Mains → Mains → (ℕ → Kind) → (ℕ → Kind) → Type 0
SparesOthers old new before after = SparesKinds old.reading new.reading before after

-- a stream that is open then, but for the file that is read, was open before
abbrev pub OpensNoOther : Mains → Mains → (ℕ → Kind) → (ℕ → Kind) → Type 0
OpensNoOther old new before after = SparesKinds new.reading old.reading after before

-- and where it is
abbrev pub SparesPlaces : Reading → (ℕ → Kind) → State → State → Type 0
SparesPlaces was kinds old new = (k : ℕ) → k ≢ 0 → IsApartFrom k was → kinds k ≢ Closed → (new.readers k ≡ old.readers k) × (new.writers k ≡ old.writers k)
