-- The state that a world in memory tells, and what its parts do.
use Rattle.std.specs.Prelude.{◌≡◌, ℕ, zero, suc, ◌<◌, ◌≤◌, ◌==◌, List, [], ◌∷◌, ◌++◌, length, take, drop, get_or, Bool, true, false, cond, Option, Some, Result, Ok, Err}
use Rattle.std.specs.List.{position}
use Rattle.std.specs.Cmp.Lexicographic.{pointwise}
use Rattle.world_core.specs.declared.world.Ending.TheVariants.{End, Fails}
use Rattle.world_core.specs.declared.world.WorldFault.{WorldFault}
use Rattle.world_core.specs.declared.world.WorldFault.TheVariants.{Failed, NoMemory}
use Rattle.world_core.specs.WorldState.{Target, Standard, Named, Entry, absent, bytes_of, free, Outside, replaced, Source, State}
use Rattle.world_core.specs.Calls.{Kind, Closed as NotOpen, Reading, Writing, Fits, IsShut}
use Rattle.world_core.specs.declared.file.MemFile.{MemFile}
use Rattle.world_core.specs.declared.file.MemSource.{MemSource}
use Rattle.world_core.specs.declared.names.NamedFile.{NamedFile}
use Rattle.world_core.specs.declared.streams.MemStream.{MemStream}
use Rattle.world_core.specs.declared.streams.MemStream.TheVariants.{Closed, Reader, Writer}
use Rattle.world_core.specs.declared.memory.MemWorld.{MemWorld}

abbrev pub entry_of : MemFile → Entry
entry_of f = record { bytes = f.bytes; ending = f.ending; room = f.room; opens = f.opens }

-- what a file is to whom reads it from its start
abbrev pub source_at_start : MemFile → Source
source_at_start f = record { rest = bytes_of f.bytes; ending = f.ending }

abbrev pub is_named : List ℕ → NamedFile → Bool
is_named name f = pointwise ◌==◌ f.name name

-- what the first file of a name holds
abbrev pub entry_at : List NamedFile → List ℕ → Entry
entry_at [] name = absent
entry_at (f ∷ fs) name = cond (is_named name f) (entry_of f.file) (entry_at fs name)

-- where that file stands
abbrev pub place : List NamedFile → List ℕ → Option ℕ
place files name = position (is_named name) files

abbrev pub outside_of : MemFile → List NamedFile → Outside
outside_of output files Standard = entry_of output
outside_of output files (Named name) = entry_at files name

abbrev pub source_of : MemSource → Source
source_of s = record { rest = drop s.at s.bytes; ending = s.ending }

abbrev pub nothing : Source
nothing = record { rest = []; ending = End }

abbrev pub kind_of : MemStream → Kind
kind_of Closed = NotOpen
kind_of (Reader s) = Reading
kind_of (Writer name) = Writing

abbrev pub reader_of : MemStream → Source
reader_of Closed = nothing
reader_of (Reader s) = source_of s
reader_of (Writer name) = nothing

abbrev pub writer_of : MemStream → Target
writer_of Closed = Standard
writer_of (Reader s) = Standard
writer_of (Writer name) = Named name

-- the numbers 0 and 1 are the standard streams, and the others stand in a list
abbrev pub kinds_of : List MemStream → ℕ → Kind
kinds_of streams zero = Reading
kinds_of streams (suc zero) = Writing
kinds_of streams (suc (suc k)) = kind_of (get_or streams k Closed)

abbrev pub readers_of : Source → List MemStream → ℕ → Source
readers_of input streams zero = input
readers_of input streams (suc zero) = nothing
readers_of input streams (suc (suc k)) = reader_of (get_or streams k Closed)

abbrev pub writers_of : List MemStream → ℕ → Target
writers_of streams zero = Standard
writers_of streams (suc zero) = Standard
writers_of streams (suc (suc k)) = writer_of (get_or streams k Closed)

abbrev pub memory_state : Source → Outside → List MemStream → State
memory_state input outside streams = record { outside = outside; readers = readers_of input streams; writers = writers_of streams }

abbrev pub state_of : MemWorld → State
state_of w = memory_state (source_of w.input) (outside_of w.output w.files.items) w.streams.items

abbrev pub open_for : MemWorld → ℕ → Kind
open_for w = kinds_of w.streams.items

abbrev pub count_of : MemWorld → ℕ
count_of w = w.failed

-- a world in which nothing is open but the standard streams, and no name was added
abbrev pub only_standard : Source → Entry → State
only_standard input output = memory_state input (replaced Standard output (λ target. absent)) []

-- a name holds something else
abbrev pub with_entry : List ℕ → Entry → State → State
with_entry name e s = record { outside = replaced (Named name) e s.outside; readers = s.readers; writers = s.writers }

-- n bytes are given to a buffer
pub record GivesSome (n : ℕ) (old new : Source) (before now : List ℕ) : Type 0 where
  pub within : n ≤ length old.rest
  pub most : n ≤ length before
  pub bytes : take n now ≡ take n old.rest
  pub ends : 0 < length before → n ≡ 0 → (old.rest ≡ []) × (old.ending ≡ End)
  pub rest : new.rest ≡ drop n old.rest
  pub ending : new.ending ≡ old.ending

pub record GivesNone (old new : Source) (before : List ℕ) : Type 0 where
  pub asked : 0 < length before
  pub rest : old.rest ≡ []
  pub ending : old.ending ≡ Fails
  pub unchanged : new ≡ old

abbrev pub Gives : Result ℕ WorldFault → Source → Source → List ℕ → List ℕ → Type 0
Gives (Ok n) old new before now = GivesSome n old new before now
Gives (Err Failed) old new before now = GivesNone old new before
Gives (Err NoMemory) old new before now = ⊥

-- what an entry holds behind more bytes; to append none leaves an absent one absent
abbrev pub put_entry : List ℕ → Entry → Entry
put_entry [] e = e
put_entry (x ∷ xs) e = record e { bytes = Some (bytes_of e.bytes ++ x ∷ xs) }

-- an entry takes the first n bytes of a text
pub record TakesSome (n : ℕ) (text : List ℕ) (old new : Entry) : Type 0 where
  pub most : n ≤ length text
  pub some : 0 < length text → 0 < n
  pub fits : Fits n old
  pub entry : new ≡ put_entry (take n text) old

pub record TakesNone (text : List ℕ) (old new : Entry) : Type 0 where
  pub asked : 0 < length text
  pub full : free old ≡ Some 0
  pub unchanged : new ≡ old

abbrev pub Takes : Result ℕ WorldFault → List ℕ → Entry → Entry → Type 0
Takes (Ok n) text old new = TakesSome n text old new
Takes (Err Failed) text old new = TakesNone text old new
Takes (Err NoMemory) text old new = new ≡ old

-- no other name holds something else
abbrev pub KeepsOtherNames : List ℕ → List NamedFile → List NamedFile → Type 0
KeepsOtherNames name old new = (other : List ℕ) → pointwise ◌==◌ name other ≡ false → entry_at new other ≡ entry_at old other

-- no name holds something else
abbrev pub KeepsNames : List NamedFile → List NamedFile → Type 0
KeepsNames old new = (name : List ℕ) → entry_at new name ≡ entry_at old name

-- what a reader that is opened of an entry has
pub record IsReaderOf (e : Entry) (s : Source) : Type 0 where
  pub opens : e.opens ≡ true
  pub bytes : e.bytes ≡ Some s.rest
  pub ending : s.ending ≡ e.ending

abbrev pub OpensSource : Entry → Result MemSource WorldFault → Type 0
OpensSource e (Ok s) = IsReaderOf e (source_of s)
OpensSource e (Err Failed) = IsShut e
OpensSource e (Err NoMemory) = Unit {0}

-- a stream is added behind the others
pub record AddsStream (stream : MemStream) (id : ℕ) (old new : List MemStream) : Type 0 where
  pub streams : new ≡ old ++ stream ∷ []
  pub number : id ≡ suc (suc (length old))
