-- The files that a script has open, by their names.
use Rattle.std.specs.Prelude.{◌≡◌, ◌≢◌, ◌⊎◌, ℕ, ◌+◌, ◌%◌, ◌^◌, ◌<◌, nat_lt, List, [], ◌∷◌, ◌++◌, map, filter, not, length, Bool, true, false, Option, Some, None, Result, Ok, Err, position, if◌then◌else◌}
use Rattle.awk_values.specs.declared.fault.Fault.TheVariants.{TextLimit, TooManyStreams}
use Rattle.awk_values.specs.declared.fault.Stop.{Stop}
use Rattle.awk_values.specs.declared.fault.Stop.TheVariants.{Fault as IsFault, NoMemory}
use Rattle.world_core.specs.WorldState.{State, Source, Named, Entry}
use Rattle.world_core.specs.Calls.{Kind, Closed, Reading, Writing}
use Rattle.sem_primitives.specs.Limits.{most_streams}
use Rattle.sem_primitives.specs.Texts.{same_text}
use Rattle.sem_primitives.specs.InputMeaning.{reader_named, with_reader}
use Rattle.sem_primitives.specs.InputParts.{source_of}
use Rattle.sem_primitives.specs.OutputMeaning.{is_writing}
use Rattle.host_streams.specs.declared.reader.Phase.{Phase}
use Rattle.host_streams.specs.declared.reader.Phase.TheVariants.{Open, Broken}
use Rattle.host_streams.specs.declared.reader.FileNext.{FileNext}
use Rattle.host_streams.specs.declared.reader.FileNext.TheVariants.{Record, End, Failed}
use Rattle.host_streams.specs.declared.streams.NamedReader.{NamedReader}
use Rattle.host_streams.specs.declared.streams.NamedWriter.{NamedWriter}
use Rattle.host_streams.specs.declared.streams.Streams.{Streams}
use Rattle.host_streams.specs.declared.reader.Reader.{Reader}
use Rattle.host_streams.specs.Readers.{left, unread, Answers, HandsOver, NextCounts, NextPhase, OnlyLimit}

-- the name and the number of an open stream
abbrev pub reader_handle : NamedReader → List ℕ × ℕ
reader_handle r = (r.name, r.reader.id)

abbrev pub writer_handle : NamedWriter → List ℕ × ℕ
writer_handle w = (w.name, w.id)

-- no other has the name or the number
abbrev pub IsApart : List ℕ × ℕ → List (List ℕ × ℕ) → Type 0
IsApart h [] = Unit {0}
IsApart h (g ∷ gs) = (h.0 ≢ g.0) × (h.1 ≢ g.1) × IsApart h gs

-- these streams are open, each by itself, and none is a standard stream
abbrev pub AreOpen : Kind → List (List ℕ × ℕ) → (ℕ → Kind) → Type 0
AreOpen kind [] kinds = Unit {0}
AreOpen kind (h ∷ hs) kinds = (1 < h.1) × (kinds h.1 ≡ kind) × IsApart h hs × AreOpen kind hs kinds

-- what it holds open is open in the world
abbrev pub HoldsOpen : Streams → (ℕ → Kind) → Type 0
HoldsOpen s kinds = AreOpen Reading (map reader_handle s.readers.items) kinds × AreOpen Writing (map writer_handle s.writers.items) kinds

abbrev pub IsMissing : Streams → Type 0
IsMissing s = (s.readers.items ≡ []) × (s.writers.items ≡ [])

-- each writer writes to its name
abbrev pub WritersGo : List NamedWriter → State → Type 0
WritersGo [] state = Unit {0}
WritersGo (w ∷ ws) state = (state.writers w.id ≡ Named w.name) × WritersGo ws state

-- by their names, what the readers have left
abbrev pub readers_in : List NamedReader → State → List (List ℕ × Source)
readers_in readers state = map (λ r. (r.name, left r.reader (state.readers r.reader.id))) readers

-- the names that are open for reading
abbrev pub reader_names : List NamedReader → List (List ℕ)
reader_names readers = map (λ r. r.name) readers

abbrev pub has_reader : List ℕ → List NamedReader → Bool
has_reader name readers = is_writing name (reader_names readers)

abbrev pub is_reader : List ℕ → NamedReader → Bool
is_reader name r = same_text name r.name

abbrev pub reader_place : List ℕ → List NamedReader → Option ℕ
reader_place name readers = position (is_reader name) readers

-- what the reader of a name shows, or else this
abbrev pub shown : {A : Type 0} → (Reader → A) → A → List ℕ → List NamedReader → A
shown show other name [] = other
shown show other name (r ∷ rs) = if is_reader name r then show r.reader else shown show other name rs

-- how far it is, and the bytes that it keeps; where there is none, as before anything is read
abbrev pub phase_named : List ℕ → List NamedReader → Phase
phase_named name readers = shown (λ r. r.phase) Open name readers

abbrev pub kept_named : List ℕ → List NamedReader → List ℕ
kept_named name readers = shown unread [] name readers

-- In every world: the answer is that of the bytes that the name's reader kept, and of those that the file handed over.
abbrev pub HandsFile : List ℕ → Option ℕ → List NamedReader → Result FileNext Stop → List NamedReader → Type 0
HandsFile name rs old answer new = HandsOver rs (phase_named name old) (kept_named name old) answer (phase_named name new) (kept_named name new)

abbrev pub is_writer : List ℕ → NamedWriter → Bool
is_writer name w = same_text name w.name

abbrev pub writer_place : List ℕ → List NamedWriter → Option ℕ
writer_place name writers = position (is_writer name) writers

-- the names that are open for writing
abbrev pub names_of : List NamedWriter → List (List ℕ)
names_of writers = map (λ w. w.name) writers

-- the streams of other names, with what they keep
abbrev pub readers_beside : List ℕ → List NamedReader → List NamedReader
readers_beside name readers = filter (λ r. not (is_reader name r)) readers

abbrev pub writers_beside : List ℕ → List NamedWriter → List NamedWriter
writers_beside name writers = filter (λ w. not (is_writer name w)) writers

-- one more may be opened
abbrev pub has_room : Streams → Bool
has_room s = nat_lt (length s.readers.items + length s.writers.items) most_streams

-- a file is opened, or there is no room for it, or it does not open
abbrev pub OpensFile : List ℕ → Bool → State → List (List ℕ × Source) → Result (Option ℕ) Stop → List (List ℕ × Source) → Type 0
OpensFile name room state old (Ok (Some at)) new = (room ≡ true) × (source : Source) × (source_of (state.outside (Named name)) ≡ Some source)
    × (new ≡ with_reader name source old)
OpensFile name room state old (Ok None) new = (room ≡ true) × (source_of (state.outside (Named name)) ≡ None) × (new ≡ old)
OpensFile name room state old (Err (IsFault fault)) new = (room ≡ false) × (fault ≡ TooManyStreams) × (new ≡ old)
OpensFile name room state old (Err NoMemory) new = (room ≡ true) × (new ≡ old)

abbrev pub OpenCounts : Result (Option ℕ) Stop → ℕ → ℕ → Type 0
OpenCounts (Ok None) n m = m ≡ (n + 1) % 2 ^ 64
OpenCounts r n m = m ≡ n

-- one more is open for reading, last
abbrev pub IsAdded : List ℕ → List NamedReader → List NamedReader → Type 0
IsAdded name old new = (id : ℕ) × (map reader_handle new ≡ map reader_handle old ++ ((name, id) ∷ []))

-- a file is opened last, or nothing is opened
abbrev pub OpensReader : Bool → List ℕ → List NamedReader → Result (Option ℕ) Stop → List NamedReader → Type 0
OpensReader room name old (Ok (Some at)) new = (room ≡ true) × IsAdded name old new
OpensReader room name old (Ok None) new = (room ≡ true) × (new ≡ old)
OpensReader room name old (Err (IsFault fault)) new = (room ≡ false) × (fault ≡ TooManyStreams) × (new ≡ old)
OpensReader room name old (Err NoMemory) new = (room ≡ true) × (new ≡ old)

-- A file without a reader is opened, if memory suffices, and read. One that does not open has no reader; one of which a read failed has one, and the
-- answer is the same.
abbrev pub StartsReader : List ℕ → List NamedReader → Result FileNext Stop → List NamedReader → Type 0
StartsReader name old (Ok (Record text)) new = IsAdded name old new
StartsReader name old (Ok End) new = IsAdded name old new
StartsReader name old (Ok Failed) new = (new ≡ old) ⊎ (IsAdded name old new × (phase_named name new ≡ Broken))
StartsReader name old (Err (IsFault fault)) new = (fault ≡ TextLimit) × IsAdded name old new
StartsReader name old (Err NoMemory) new = (new ≡ old) ⊎ IsAdded name old new

-- which files are open for reading then, by whether this one was and whether one more may be opened
abbrev pub ReadersAfter : Bool → Bool → List ℕ → List NamedReader → Result FileNext Stop → List NamedReader → Type 0
ReadersAfter true room name old answer new = OnlyLimit answer × (map reader_handle new ≡ map reader_handle old)
ReadersAfter false false name old answer new = (answer ≡ Err (IsFault TooManyStreams)) × (new ≡ old)
ReadersAfter false true name old answer new = StartsReader name old answer new

-- the next record of a file that is open
pub record ReadsFile (name : List ℕ) (rs : Option ℕ) (old : List (List ℕ × Source)) (answer : Result FileNext Stop) (new : List (List ℕ
    × Source)) : Type 0 where
  pub before : Source
  pub named : reader_named name old ≡ Some before
  pub later : Source
  pub answers : Answers rs before answer later
  pub readers : new ≡ with_reader name later old

-- a file without a reader: there is no room for one more, or it does not open, or it is opened and read
abbrev pub StartsFile : Bool → Option Source → List ℕ → Option ℕ → List (List ℕ × Source) → Result FileNext Stop → List (List ℕ × Source) → Type 0
StartsFile false source name rs old answer new = (answer ≡ Err (IsFault TooManyStreams)) × (new ≡ old)
StartsFile true None name rs old answer new = ((answer ≡ Ok Failed) ⊎ (answer ≡ Err NoMemory)) × (new ≡ old)
StartsFile true (Some source) name rs old answer new = ReadsFile name rs (with_reader name source old) answer new ⊎ ((answer ≡ Err NoMemory) × (new ≡ old))

abbrev pub FileNextBy : Option Source → List ℕ → Option ℕ → Bool → Entry → List (List ℕ × Source) → Result FileNext Stop → List (List ℕ × Source) → Type 0
FileNextBy (Some source) name rs room entry old answer new = ReadsFile name rs old answer new
FileNextBy None name rs room entry old answer new = StartsFile room (source_of entry) name rs old answer new

-- the next record of a file: what the name holds is read when it is opened
abbrev pub FileNextIs : List ℕ → Option ℕ → Bool → Entry → List (List ℕ × Source) → Result FileNext Stop → List (List ℕ × Source) → Type 0
FileNextIs name rs room entry old answer new = FileNextBy (reader_named name old) name rs room entry old answer new

-- The next record of a name was asked for, of what the name held before.
abbrev pub ReadsNext : List ℕ → Option ℕ → Streams → State → Result FileNext Stop → Streams → State → Type 0
ReadsNext name rs old before answer new after =
    FileNextIs name rs (has_room old) (before.outside (Named name))
    (readers_in old.readers.items before) answer (readers_in new.readers.items after)

-- In every world, where the next record of a name was asked for:

-- which files are open for reading then
abbrev pub FileReaders : List ℕ → Streams → Result FileNext Stop → Streams → Type 0
FileReaders name old answer new =
    ReadersAfter (has_reader name old.readers.items) (has_room old) name
    old.readers.items answer new.readers.items

-- a reader that the name has then is broken exactly where the answer is a failure
abbrev pub FileBreaks : List ℕ → Streams → Result FileNext Stop → Streams → Type 0
FileBreaks name old answer new =
    has_reader name new.readers.items ≡ true
    → NextPhase (phase_named name old.readers.items) answer (phase_named name new.readers.items)

-- and the answer is that of the bytes that it kept and of those that the file handed over
abbrev pub FileHands : List ℕ → Option ℕ → Streams → Result FileNext Stop → Streams → Type 0
FileHands name rs old answer new =
    has_reader name new.readers.items ≡ true
    → HandsFile name rs old.readers.items answer new.readers.items

-- once a read failed, it is told for ever
abbrev pub FileGoesOnFailing : List ℕ → Streams → Result FileNext Stop → Streams → Type 0
FileGoesOnFailing name old answer new =
    phase_named name old.readers.items ≡ Broken
    → (answer ≡ Ok Failed) × (phase_named name new.readers.items ≡ Broken)

-- a failure is counted once for each reader
abbrev pub FileCounts : List ℕ → Streams → Result FileNext Stop → ℕ → ℕ → Type 0
FileCounts name old answer n m = NextCounts (phase_named name old.readers.items) answer n m

-- no stream of these has the number
abbrev pub IsNone : ℕ → List (List ℕ × ℕ) → Type 0
IsNone k [] = Unit {0}
IsNone k (h ∷ hs) = (k ≢ h.1) × IsNone k hs

abbrev pub IsNoneOf : ℕ → Streams → Type 0
IsNoneOf k s = IsNone k (map reader_handle s.readers.items) × IsNone k (map writer_handle s.writers.items)

-- every other stream that is open stays so
abbrev pub OthersStay : Streams → Streams → (ℕ → Kind) → (ℕ → Kind) → Type 0
OthersStay s t old new = (k : ℕ) → IsNoneOf k s → old k ≢ Closed → (new k ≡ old k) × IsNoneOf k t

-- and where it is
abbrev pub OthersKeep : Streams → (ℕ → Kind) → State → State → Type 0
OthersKeep s kinds old new = (k : ℕ) → IsNoneOf k s → kinds k ≢ Closed → (new.readers k ≡ old.readers k) × (new.writers k ≡ old.writers k)
