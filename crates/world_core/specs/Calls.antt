-- What the calls of a world do: to its streams, to its count of failures, and, where the world is modelled, to that.
use Rattle.std.specs.Prelude.{◌≡◌, ◌≢◌, ℕ, ◌+◌, ◌%◌, ◌^◌, ◌<◌, ◌≤◌, ◌==◌, List, [], ◌∷◌, length, take, drop, Bool, true, false, cond, Some, None, Result, Ok, Err, IfSome}
use Rattle.world_core.specs.declared.world.Ending.TheVariants.{End, Fails}
use Rattle.world_core.specs.declared.world.WorldFault.{WorldFault}
use Rattle.world_core.specs.declared.world.WorldFault.TheVariants.{Failed, NoMemory}
use Rattle.world_core.specs.WorldState.{Named, Entry, free, State, Action, Open, after, puts}

-- what an open stream is for
pub data Kind : Type 0 where
  Closed Reading Writing : Kind

abbrev pub set_kind : ℕ → Kind → (ℕ → Kind) → ℕ → Kind
set_kind id kind kinds = λ k. cond (k == id) kind (kinds k)

-- a number that was closed is opened, and no other changes
pub record Opens (kind : Kind) (id : ℕ) (old new : ℕ → Kind) : Type 0 where
  pub was_closed : old id ≡ Closed
  pub opened : new ≡ set_kind id kind old

-- the count of failures, modulo 2^64, goes up by one at a failed call and at no other
abbrev pub next_count : {T : Type 0} → Result T WorldFault → ℕ → ℕ
next_count (Ok x) n = n
next_count (Err Failed) n = (n + 1) % 2 ^ 64
next_count (Err NoMemory) n = n

-- every stream but one is where it was
pub record KeepsOthers (id : ℕ) (old new : State) : Type 0 where
  pub readers : (k : ℕ) → k ≢ id → new.readers k ≡ old.readers k
  pub writers : (k : ℕ) → k ≢ id → new.writers k ≡ old.writers k

-- opening for reading fixes the bytes: the reader has what the name holds at this moment
pub record OpensReader (name : List ℕ) (id : ℕ) (old new : State) : Type 0 where
  pub opens : (old.outside (Named name)).opens ≡ true
  pub bytes : (old.outside (Named name)).bytes ≡ Some (new.readers id).rest
  pub ending : (new.readers id).ending ≡ (old.outside (Named name)).ending
  pub outside : new.outside ≡ old.outside
  pub others : KeepsOthers id old new

-- it does not open for reading: an absent name never does
abbrev pub IsShut : Entry → Type 0
IsShut e = e.opens ≡ true → e.bytes ≡ None

abbrev pub OpensToRead : List ℕ → State → Result ℕ WorldFault → State → Type 0
OpensToRead name old (Ok id) new = OpensReader name id old new
OpensToRead name old (Err Failed) new = (new ≡ old) × IsShut (old.outside (Named name))
OpensToRead name old (Err NoMemory) new = new ≡ old

pub record OpensWriter (name : List ℕ) (append : Bool) (id : ℕ) (old new : State) : Type 0 where
  pub opens : (old.outside (Named name)).opens ≡ true
  pub outside : new.outside ≡ after (Open name append ∷ []) old.outside
  pub writer : new.writers id ≡ Named name
  pub others : KeepsOthers id old new

abbrev pub OpensToWrite : List ℕ → Bool → State → Result ℕ WorldFault → State → Type 0
OpensToWrite name append old (Ok id) new = OpensWriter name append id old new
OpensToWrite name append old (Err Failed) new = (new ≡ old) × ((old.outside (Named name)).opens ≡ false)
OpensToWrite name append old (Err NoMemory) new = new ≡ old

-- one reader has these bytes left, and nothing else changes
pub record Moves (id : ℕ) (left : List ℕ) (old new : State) : Type 0 where
  pub outside : new.outside ≡ old.outside
  pub writers : new.writers ≡ old.writers
  pub rest : (new.readers id).rest ≡ left
  pub ending : (new.readers id).ending ≡ (old.readers id).ending
  pub others : (k : ℕ) → k ≢ id → new.readers k ≡ old.readers k

-- n bytes are read into a buffer: into one that is not empty at least one byte, or the end was met
pub record ReadsSome (id n : ℕ) (old : State) (before now : List ℕ) (new : State) : Type 0 where
  pub within : n ≤ length (old.readers id).rest
  pub bytes : take n now ≡ take n (old.readers id).rest
  pub ends : 0 < length before → n ≡ 0 → ((old.readers id).rest ≡ []) × ((old.readers id).ending ≡ End)
  pub moves : Moves id (drop n (old.readers id).rest) old new

-- reading fails where no byte is left and the ending is a failure
pub record ReadsNone (id : ℕ) (old : State) (before : List ℕ) (new : State) : Type 0 where
  pub asked : 0 < length before
  pub rest : (old.readers id).rest ≡ []
  pub ending : (old.readers id).ending ≡ Fails
  pub unchanged : new ≡ old

abbrev pub Reads : ℕ → State → List ℕ → Result ℕ WorldFault → List ℕ → State → Type 0
Reads id old before (Ok n) now new = ReadsSome id n old before now new
Reads id old before (Err Failed) now new = ReadsNone id old before new
Reads id old before (Err NoMemory) now new = new ≡ old

-- n more bytes fit
abbrev pub Fits : ℕ → Entry → Type 0
Fits n e = IfSome (free e) (λ room. n ≤ room)

-- these actions are done, and nothing else changes
pub record Does (actions : List Action) (old new : State) : Type 0 where
  pub outside : new.outside ≡ after actions old.outside
  pub readers : new.readers ≡ old.readers
  pub writers : new.writers ≡ old.writers

-- the first n bytes of a text are appended
pub record WritesSome (id n : ℕ) (text : List ℕ) (old new : State) : Type 0 where
  pub fits : Fits n (old.outside (old.writers id))
  pub does : Does (puts (old.writers id) (take n text)) old new

-- writing fails where the room is full
pub record WritesNone (id : ℕ) (text : List ℕ) (old new : State) : Type 0 where
  pub asked : 0 < length text
  pub full : free (old.outside (old.writers id)) ≡ Some 0
  pub unchanged : new ≡ old

abbrev pub Writes : ℕ → List ℕ → State → Result ℕ WorldFault → State → Type 0
Writes id text old (Ok n) new = WritesSome id n text old new
Writes id text old (Err Failed) new = WritesNone id text old new
Writes id text old (Err NoMemory) new = new ≡ old

-- a stream is closed: the outside and the other streams stay
pub record Closes (id : ℕ) (old new : State) : Type 0 where
  pub outside : new.outside ≡ old.outside
  pub others : KeepsOthers id old new
