-- What primitives of the input mean (POSIX.1-2017 awk, "INPUT FILES"; "Input Functions and Statements", getline, close).
use Rattle.std.specs.Prelude.{ℕ, ◌||◌, Bool, true, false, if◌then◌else◌, List, [], ◌∷◌, filter, not, Option, Some, None, Result, Ok, Err, pos}
use Rattle.awk_values.specs.Operators.{sum}
use Rattle.awk_values.specs.Values.{number_of_value, text_of_value}
use Rattle.awk_values.specs.declared.fault.Fault.{Fault}
use Rattle.awk_values.specs.declared.fault.Fault.TheVariants.{OpenInput, ReadFailed, TooManyStreams}
use Rattle.awk_values.specs.declared.value.Value.{Value}
use Rattle.awk_values.specs.declared.value.Value.TheVariants.{Num, StrNum}
use Rattle.world_core.specs.WorldState.{Outside, Named, Source}
use Rattle.sem_primitives.specs.SharedState.{Inner, MainReader, ◌>>=◌, special_of, with_special}
use Rattle.sem_primitives.specs.Finds.{observed, seen}
use Rattle.sem_primitives.specs.Texts.{same_text}
use Rattle.sem_primitives.specs.Records.{Got, Record, AtEnd, Broken}
use Rattle.sem_primitives.specs.FieldMeaning.{with_record}
use Rattle.sem_primitives.specs.OutputMeaning.{has_room, is_writing}
use Rattle.sem_primitives.specs.InputParts.{Failed, Main, NotOpened, Over, Pending, Taken, next_record, nothing_left, source_of, stops_reading, with_left}
use Rattle.sem_primitives.specs.MainInput.{main_input}
use Rattle.sem_primitives.specs.declared.answers.InputAnswer.{InputAnswer}
use Rattle.sem_primitives.specs.declared.answers.InputAnswer.TheVariants as input
use Rattle.sem_primitives.specs.declared.answers.StreamAnswer.{StreamAnswer}
use Rattle.sem_primitives.specs.declared.answers.StreamAnswer.TheVariants as stream
use Rattle.sem_primitives.specs.declared.constants.Special.{Special}
use Rattle.sem_primitives.specs.declared.constants.Special.TheVariants.{Fnr, Nr}

-- The main input.

-- The rest of what is being read is given up, also where it fails: it is at its end, and nothing is being read. So the standard input stays
-- at its end, and of a file nothing is left to tell.
abbrev pub gives_up : Option MainReader → Inner → Inner
gives_up None inner = inner
gives_up (Some reader) inner = stops_reading (with_left reader nothing_left inner)

-- NR counts a record, and then FNR, each by its own number
abbrev pub counted_by : Special → Inner → Result Inner Fault
counted_by s inner = number_of_value (special_of inner s) >>= λ n. sum n (pos 1) >>= λ m. Ok (with_special s (Num m) inner)

abbrev pub counted_record : Inner → Result Inner Fault
counted_record inner = counted_by Nr inner >>= λ i. counted_by Fnr i

-- a record is set, or kept for a variable
abbrev pub as_record : List ℕ → Inner → Result (Inner × InputAnswer) Fault
as_record text inner = with_record text inner >>= λ i. Ok (i, input.Read)

abbrev pub as_line : List ℕ → Inner → Result (Inner × InputAnswer) Fault
as_line text inner = Ok (record inner { line = Some (StrNum text) }, input.Read)

-- in the main loop a file that does not open, or does not read, is a fault
abbrev pub next_of : Inner × Main → Result (Inner × InputAnswer) Fault
next_of (inner, Taken text) = counted_record inner >>= λ i. as_record text i
next_of (inner, Over) = Ok (inner, input.End)
next_of (inner, Pending) = Ok (inner, input.Pending)
next_of (inner, NotOpened) = Err OpenInput
next_of (inner, Failed) = Err ReadFailed

-- for getline it is an answer
abbrev pub getline_of : (List ℕ → Inner → Result (Inner × InputAnswer) Fault) → Inner × Main → Result (Inner × InputAnswer) Fault
getline_of keep (inner, Taken text) = counted_record inner >>= λ i. keep text i
getline_of keep (inner, Over) = Ok (inner, input.End)
getline_of keep (inner, Pending) = Ok (inner, input.Pending)
getline_of keep (inner, NotOpened) = Ok (inner, input.Failed)
getline_of keep (inner, Failed) = Ok (inner, input.Failed)

-- in the actions of END there is nothing left to read
abbrev pub getline_by : Bool → (List ℕ → Inner → Result (Inner × InputAnswer) Fault) → Outside → Inner → Result (Inner × InputAnswer) Fault
getline_by true keep outside inner = Ok (inner, input.End)
getline_by false keep outside inner = main_input outside inner >>= λ x. getline_of keep x

-- Files by their names.

abbrev pub reader_named : List ℕ → List (List ℕ × Source) → Option Source
reader_named name [] = None
reader_named name (r ∷ rs) = if same_text name r.0 then Some r.1 else reader_named name rs

abbrev pub with_reader : List ℕ → Source → List (List ℕ × Source) → List (List ℕ × Source)
with_reader name source [] = (name, source) ∷ []
with_reader name source (r ∷ rs) = if same_text name r.0 then (name, source) ∷ rs else r ∷ with_reader name source rs

abbrev pub got_file : (List ℕ → Inner → Result (Inner × InputAnswer) Fault) → Inner → Got → Result (Inner × InputAnswer) Fault
got_file keep inner (Record text) = keep text inner
got_file keep inner AtEnd = Ok (inner, input.End)
got_file keep inner Broken = Ok (inner, input.Failed)

abbrev pub read_file : (List ℕ → Inner → Result (Inner × InputAnswer) Fault) → List ℕ → Source → Inner → Result (Inner × InputAnswer) Fault
read_file keep name source inner = next_record inner source >>= λ got.
    got_file keep (observed (record inner { readers = with_reader name got.1 inner.readers })) got.0

-- what does not open is no stream
abbrev pub opened_file : (List ℕ → Inner → Result (Inner × InputAnswer) Fault) → List ℕ → Option Source → Inner → Result (Inner × InputAnswer) Fault
opened_file keep name None inner = Ok (inner, input.Failed)
opened_file keep name (Some source) inner = read_file keep name source inner

abbrev pub open_or_read : (List ℕ → Inner → Result (Inner × InputAnswer) Fault) → List ℕ → Outside → Option Source → Inner → Result (Inner × InputAnswer) Fault
open_or_read keep name outside (Some source) inner = read_file keep name source inner
open_or_read keep name outside None inner =
    elim (has_room inner) [ true ↦ opened_file keep name (source_of (seen inner outside (Named name))) (observed inner) | false ↦ Err TooManyStreams ]

abbrev pub getline_file_by : (List ℕ → Inner → Result (Inner × InputAnswer) Fault) → Value → Outside → Inner → Result (Inner × InputAnswer) Fault
getline_file_by keep name outside inner = open_or_read keep (text_of_value name) outside (reader_named (text_of_value name) inner.readers) inner

-- both streams of a name are closed
abbrev pub without_reader : List ℕ → List (List ℕ × Source) → List (List ℕ × Source)
without_reader name rs = filter (λ r. not (same_text name r.0)) rs

abbrev pub without_writer : List ℕ → List (List ℕ) → List (List ℕ)
without_writer name ws = filter (λ w. not (same_text name w)) ws

abbrev pub is_reading : Option Source → Bool
is_reading None = false
is_reading (Some source) = true

abbrev pub is_open : List ℕ → Inner → Bool
is_open name inner = is_reading (reader_named name inner.readers) || is_writing name inner.writers

abbrev pub close_row : Value → Inner → Inner × StreamAnswer
close_row name inner = (
  record inner { readers = without_reader (text_of_value name) inner.readers; writers = without_writer (text_of_value name) inner.writers },
  if is_open (text_of_value name) inner then stream.Done else stream.NotOpen,
)

-- Names of the script, and the assignments of the command line.

abbrev pub name_of : Option (ℕ × Value) → ℕ
name_of None = 0
name_of (Some p) = p.0

abbrev pub value_of : Option (ℕ × Value) → Option Value
value_of None = None
value_of (Some p) = Some p.1
