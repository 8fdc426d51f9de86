-- The streams of a world over real files: what each is open for, and which names are paths.
use Rattle.std.specs.Prelude.{◌≡◌, ◌≢◌, ◌⊎◌, ℕ, zero, suc, ◌<◌, ◌==◌, List, [], length, get_or, Bool, true, false, ◌&&◌, not, cond, if◌then◌else◌, Option, None, Some}
use Rattle.std.specs.Fs.{new_options, with_append, with_create, with_truncate, with_write}
use Rattle.std.specs.declared.fs.options.OpenOptions.{OpenOptions}
use Rattle.std.specs.Io.KnownBytes.{Appends}
use Rattle.std.specs.Str.{IsUtf8}
use Rattle.world_core.specs.Calls.{Kind, Closed as NotOpen, Reading, Writing}
use Rattle.world_core.specs.Traces.{Call, Opened, Wrote, Other}
use Rattle.world_core.specs.WorldState.{State, Standard, absent}
use Rattle.world_core.specs.declared.world.Ending.TheVariants.{End}
use Rattle.world_os.specs.declared.world.OsStream.{OsStream}
use Rattle.world_os.specs.declared.world.OsStream.TheVariants.{Closed, Errors, Input, Output, Reader, Writer}
use Rattle.world_os.specs.StreamNames.{is_errors, is_input, is_output}

-- a name is a path where it is not empty and UTF-8
abbrev pub IsPath : List ℕ → Type 0
IsPath name = (0 < length name) × IsUtf8 name

abbrev pub os_kind : {F : Type 0} → OsStream F → Kind
os_kind Closed = NotOpen
os_kind (Reader file) = Reading
os_kind (Writer file) = Writing
os_kind Input = Reading
os_kind Output = Writing
os_kind Errors = Writing

-- streams 0 and 1 are the standard ones
abbrev pub os_kinds : {F : Type 0} → List (OsStream F) → ℕ → Kind
os_kinds streams zero = Reading
os_kinds streams (suc zero) = Writing
os_kinds streams (suc (suc k)) = os_kind (get_or streams k Closed)

-- The stream of a number. The standard streams are no files: their numbers have none.
abbrev pub stream_at : {F : Type 0} → List (OsStream F) → ℕ → OsStream F
stream_at streams zero = Closed
stream_at streams (suc zero) = Closed
stream_at streams (suc (suc k)) = get_or streams k Closed

-- every stream but one is as it was
abbrev pub OthersStay : {F : Type 0} → ℕ → List (OsStream F) → List (OsStream F) → Type 0
OthersStay id old new = (k : ℕ) → k ≢ id → stream_at new k ≡ stream_at old k

-- what the file of a stream will give, where the file tells
abbrev pub left_of : {F : Type 0} → (F → Option (List ℕ)) → OsStream F → Option (List ℕ)
left_of remaining Closed = None
left_of remaining (Reader file) = remaining file
left_of remaining (Writer file) = None
left_of remaining Input = None
left_of remaining Output = None
left_of remaining Errors = None

-- what the file of a stream holds, where the file tells
abbrev pub held_by : {F : Type 0} → (F → Option (List ℕ)) → OsStream F → Option (List ℕ)
held_by contents Closed = None
held_by contents (Reader file) = None
held_by contents (Writer file) = contents file
held_by contents Input = None
held_by contents Output = None
held_by contents Errors = None

-- what a name means where it is opened: a file, or one of the program's own streams
pub data Meaning : Type 0 where
  File : Meaning
  OwnInput : Meaning
  OwnOutput : Meaning
  OwnErrors : Meaning

-- opened for reading, where names of streams mean the streams or do not
abbrev pub read_as : Bool → List ℕ → Meaning
read_as named name = if named && is_input name then OwnInput else File

-- opened for writing
abbrev pub written_as : Bool → List ℕ → Meaning
written_as named name = if named && is_output name then OwnOutput else if named && is_errors name then OwnErrors else File

abbrev pub meaning_of : {F : Type 0} → OsStream F → Option Meaning
meaning_of Closed = None
meaning_of (Reader file) = Some File
meaning_of (Writer file) = Some File
meaning_of Input = Some OwnInput
meaning_of Output = Some OwnOutput
meaning_of Errors = Some OwnErrors

-- how a file is opened for writing: created where it is absent, and at its end or emptied
abbrev pub writing : Bool → OpenOptions
writing append = with_truncate (with_append (with_create (with_write new_options true) true) append) (not append)

-- nothing is told: a state of no meaning
abbrev pub no_state : State
no_state = record {
  outside = λ target. absent;
  readers = λ k. record { rest = []; ending = End };
  writers = λ k. Standard;
}

-- What a world over real files gives where a call is made, by what the kit tells of what each stream holds.

-- where the bytes of a stream go: to one of the program's own streams, or to the file of a number
pub data Sink : Type 0 where
  Nowhere : Sink
  ToOutput : Sink
  ToErrors : Sink
  ToFile : (id : ℕ) → Sink

abbrev pub sink_of : {F : Type 0} → ℕ → OsStream F → Sink
sink_of id Closed = Nowhere
sink_of id (Reader file) = Nowhere
sink_of id (Writer file) = ToFile id
sink_of id Input = Nowhere
sink_of id Output = ToOutput
sink_of id Errors = ToErrors

abbrev pub sink_at : {F : Type 0} → List (OsStream F) → ℕ → Sink
sink_at streams zero = Nowhere
sink_at streams (suc zero) = ToOutput
sink_at streams (suc (suc k)) = sink_of (suc (suc k)) (get_or streams k Closed)

-- where the bytes of a name go that is opened for writing
abbrev pub sink_meant : ℕ → Meaning → Sink
sink_meant id File = ToFile id
sink_meant id OwnInput = Nowhere
sink_meant id OwnOutput = ToOutput
sink_meant id OwnErrors = ToErrors

abbrev pub same_sink : Sink → Sink → Bool
same_sink ToOutput ToOutput = true
same_sink ToErrors ToErrors = true
same_sink (ToFile a) (ToFile b) = a == b
same_sink a b = false

-- the bytes that a call gives to a sink
abbrev pub bytes_to : {F : Type 0} → Sink → List (OsStream F) → Call → List ℕ
bytes_to sink streams (Opened name append id) = []
bytes_to sink streams (Wrote id bytes) = cond (same_sink sink (sink_at streams id)) bytes []
bytes_to sink streams Other = []

-- Which numbers mean what: a name that is opened for writing is meant by a number that meant no writer, and else a number keeps its meaning, or is closed.
abbrev pub SinksGo : {F : Type 0} → Bool → Call → List (OsStream F) → List (OsStream F) → Type 0
SinksGo named (Opened name append id) old new = (sink_at old id ≡ Nowhere) × (sink_at new id ≡ sink_meant id (written_as named name)) × OthersStay id old new
SinksGo named (Wrote id bytes) old new = (k : ℕ) → sink_at new k ≡ sink_at old k
SinksGo named Other old new = (k : ℕ) → (sink_at new k ≡ sink_at old k) ⊎ (sink_at new k ≡ Nowhere)

-- Each sink has got the bytes that the call gave it, and no others: the standard output and the standard error, and each file that stays open.
pub record Gives {F : Type 0} (contents : F → Option (List ℕ)) (named : Bool) (call : Call) (old new : List (OsStream F))
    (output output' errors errors' : Option (List ℕ)) : Type 0 where
  pub to_output : Appends output output' (bytes_to ToOutput old call)
  pub to_errors : Appends errors errors' (bytes_to ToErrors old call)
  pub to_files : (k : ℕ) → sink_at old k ≡ ToFile k → sink_at new k ≡ ToFile k
      → Appends (held_by contents (stream_at old k)) (held_by contents (stream_at new k)) (bytes_to (ToFile k) old call)
  pub sinks : SinksGo named call old new
