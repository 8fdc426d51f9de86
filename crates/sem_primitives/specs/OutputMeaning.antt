-- What printing means (POSIX.1-2017 awk, "Output Statements").
use Rattle.std.specs.Prelude.{ℕ, ◌+◌, Bool, true, false, cond, nat_le, List, [], ◌∷◌, ◌++◌, length, take, Option, Some, None, Result, Ok, Err}
use Rattle.awk_values.specs.Values.{text_of_value}
use Rattle.awk_values.specs.declared.fault.Fault.{Fault}
use Rattle.awk_values.specs.declared.fault.Fault.TheVariants.{OpenOutput, TooManyStreams, WriteFailed}
use Rattle.awk_values.specs.declared.value.Value.{Value}
use Rattle.world_core.specs.WorldState.{Target, Standard, Named, Action, Open, after, free, puts}
use Rattle.sem_primitives.specs.Limits.{most_streams}
use Rattle.sem_primitives.specs.SharedState.{Inner, Shared, HostResult}
use Rattle.sem_primitives.specs.Finds.{observed_by, seen}
use Rattle.sem_primitives.specs.Texts.{same_text}
use Rattle.sem_primitives.specs.FieldMeaning.{joined, special_text}
use Rattle.sem_primitives.specs.Formats.{formatted}
use Rattle.sem_primitives.specs.declared.constants.Destination.{Destination}
use Rattle.sem_primitives.specs.declared.constants.Destination.TheVariants as destination
use Rattle.sem_primitives.specs.declared.constants.Special.TheVariants.{Ofs, Ors}

abbrev pub printed : Inner → List Value → List ℕ
printed inner values = joined (special_text Ofs inner) values ++ special_text Ors inner

abbrev pub all_fits : Option ℕ → List ℕ → Bool
all_fits None text = true
all_fits (Some room) text = nat_le (length text) room

abbrev pub what_fits : Option ℕ → List ℕ → List ℕ
what_fits None text = text
what_fits (Some room) text = take room text

abbrev pub write_answer : Option ℕ → List ℕ → Result (Unit {0}) Fault
write_answer room text = cond (all_fits room text) (Ok tt) (Err WriteFailed)

-- a text is written to an open target: what fits goes out, and it is a fault that not all does
abbrev pub written : Target → List ℕ → Shared → HostResult (Result (Unit {0}) Fault)
written target text state = record {
  added = puts target (what_fits (free (seen state.inner state.outside target)) text);
  inner = observed_by (write_answer (free (seen state.inner state.outside target)) text) state.inner;
  answer = write_answer (free (seen state.inner state.outside target)) text;
}

-- Streams that are open by their names; their number is limited.

abbrev pub is_writing : List ℕ → List (List ℕ) → Bool
is_writing name [] = false
is_writing name (w ∷ ws) = cond (same_text name w) true (is_writing name ws)

abbrev pub streams : Inner → ℕ
streams inner = length inner.readers + length inner.writers

abbrev pub has_room : Inner → Bool
has_room inner = nat_le (streams inner + 1) most_streams

abbrev pub refused : Fault → Shared → HostResult (Result (Unit {0}) Fault)
refused fault state = record { added = []; inner = state.inner; answer = Err fault }

-- a name was opened, and is written to
abbrev pub kept_open : List ℕ → Inner → Result (Unit {0}) Fault → Inner
kept_open name inner (Ok x) = record inner { writers = inner.writers ++ (name ∷ []) }
kept_open name inner (Err fault) = inner

abbrev pub then_written : Action → List ℕ → HostResult (Result (Unit {0}) Fault) → HostResult (Result (Unit {0}) Fault)
then_written opening name does = record { added = opening ∷ does.added; inner = kept_open name does.inner does.answer; answer = does.answer }

abbrev pub opened : List ℕ → Bool → List ℕ → Shared → HostResult (Result (Unit {0}) Fault)
opened name append text state =
    then_written (Open name append) name (written (Named name) text (record state { outside = after (Open name append ∷ []) state.outside }))

abbrev pub opened_if : Bool → Bool → List ℕ → Bool → List ℕ → Shared → HostResult (Result (Unit {0}) Fault)
opened_if false opens name append text state = refused TooManyStreams state
opened_if true false name append text state = refused OpenOutput state
opened_if true true name append text state = opened name append text state

-- a stream that is open stays so, whatever it was opened for
abbrev pub written_by : Bool → List ℕ → Bool → List ℕ → Shared → HostResult (Result (Unit {0}) Fault)
written_by true name append text state = written (Named name) text state
written_by false name append text state = opened_if (has_room state.inner) (seen state.inner state.outside (Named name)).opens name append text state

abbrev pub put_text : Destination → List ℕ → List ℕ → Shared → HostResult (Result (Unit {0}) Fault)
put_text destination.Standard name text state = written Standard text state
put_text destination.Emptied name text state = written_by (is_writing name state.inner.writers) name false text state
put_text destination.Appended name text state = written_by (is_writing name state.inner.writers) name true text state

-- The name of a file is the last value.

abbrev pub last_text : List Value → List ℕ
last_text [] = []
last_text (v ∷ []) = text_of_value v
last_text (v ∷ w ∷ rest) = last_text (w ∷ rest)

abbrev pub but_last : List Value → List Value
but_last [] = []
but_last (v ∷ []) = []
but_last (v ∷ w ∷ rest) = v ∷ but_last (w ∷ rest)

abbrev pub file_name : Destination → List Value → List ℕ
file_name destination.Standard values = []
file_name destination.Emptied values = last_text values
file_name destination.Appended values = last_text values

abbrev pub operands_of : Destination → List Value → List Value
operands_of destination.Standard values = values
operands_of destination.Emptied values = but_last values
operands_of destination.Appended values = but_last values

-- the first value is the format
abbrev pub formatted_values : List Value → Result (List ℕ) Fault
formatted_values [] = Ok []
formatted_values (format ∷ values) = formatted (text_of_value format) values

-- a format's fault comes before the file is opened
abbrev pub printf_by : Result (List ℕ) Fault → Destination → List ℕ → Shared → HostResult (Result (Unit {0}) Fault)
printf_by (Ok text) to name state = put_text to name text state
printf_by (Err fault) to name state = refused fault state

-- What is printed goes out at once, so a flush changes nothing: all is out where the name is written to. The empty name says all names.
abbrev pub all_out : List ℕ → List (List ℕ) → Bool
all_out [] ws = true
all_out (c ∷ cs) ws = is_writing (c ∷ cs) ws
