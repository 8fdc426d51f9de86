-- Texts that go to streams, as the definition of printing has it.
use Rattle.std.specs.Prelude.{◌≡◌, ◌≢◌, ℕ, ◌+◌, ◌%◌, ◌^◌, ◌<◌, ◌≤◌, List, length, take, Bool, true, false, None, Result, Ok, Err}
use Rattle.awk_values.specs.declared.fault.Fault.{Fault}
use Rattle.awk_values.specs.declared.fault.Fault.TheVariants.{OpenOutput, TooManyStreams, WriteFailed}
use Rattle.awk_values.specs.declared.fault.Stop.{Stop}
use Rattle.awk_values.specs.declared.fault.Stop.TheVariants.{Fault as IsFault, NoMemory as OutOfMemory}
use Rattle.world_core.specs.declared.world.WorldFault.{WorldFault}
use Rattle.world_core.specs.declared.world.WorldFault.TheVariants.{Failed, NoMemory}
use Rattle.world_core.specs.WorldState.{Action, Entry, Named, State, after, free, puts}
use Rattle.world_core.specs.Calls.{Does, Kind, Closed, OpensWriter}
use Rattle.sem_primitives.specs.SharedState.{Shared, HostResult}
use Rattle.sem_primitives.specs.OutputMeaning.{all_fits, what_fits}

-- what a stream writes to holds
abbrev pub entry_written : ℕ → State → Entry
entry_written id state = state.outside (state.writers id)

-- the first n bytes of a text go out
abbrev pub PutsPart : ℕ → ℕ → List ℕ → State → State → Type 0
PutsPart n id text old new = Does (puts (old.writers id) (take n text)) old new

-- short of memory, a part of what fits
pub record PutsSome (id : ℕ) (text : List ℕ) (old new : State) : Type 0 where
  pub size : ℕ
  pub within : size ≤ length (what_fits (free (entry_written id old)) text)
  pub does : PutsPart size id (what_fits (free (entry_written id old)) text) old new

-- what fits goes out, and it is a failure that not all does
abbrev pub PutsText : ℕ → List ℕ → State → Result (Unit {0}) WorldFault → State → Type 0
PutsText id text old (Ok _) new = (all_fits (free (entry_written id old)) text ≡ true)
    × Does (puts (old.writers id) (what_fits (free (entry_written id old)) text)) old new
PutsText id text old (Err Failed) new = (all_fits (free (entry_written id old)) text ≡ false)
    × Does (puts (old.writers id) (what_fits (free (entry_written id old)) text)) old new
PutsText id text old (Err NoMemory) new = PutsSome id text old new

-- the outside is as after these actions, and this was to be answered
pub record HasDone (does : HostResult (Result (Unit {0}) Fault)) (answer : Result (Unit {0}) Fault) (old new : State) : Type 0 where
  pub answer_is : does.answer ≡ answer
  pub outside : new.outside ≡ after does.added old.outside

-- the first of these actions were done, and no other
abbrev pub HasBegun : List Action → State → State → Type 0
HasBegun actions old new = (n : ℕ) × (new.outside ≡ after (take n actions) old.outside)

-- what is to be done was done, or short of memory the first actions of it
abbrev pub PutsBy : {A : Type 0} → HostResult (Result (Unit {0}) Fault) → Result A Stop → State → State → Type 0
PutsBy does (Ok x) old new = HasDone does (Ok tt) old new
PutsBy does (Err (IsFault fault)) old new = HasDone does (Err fault) old new
PutsBy does (Err OutOfMemory) old new = HasBegun does.added old new

-- the failures go up by one where a write or an opening fails, and nowhere else; there is no other fault than these
abbrev pub PutCounts : {A : Type 0} → Result A Stop → ℕ → ℕ → Type 0
PutCounts (Err (IsFault WriteFailed)) n m = m ≡ (n + 1) % 2 ^ 64
PutCounts (Err (IsFault OpenOutput)) n m = m ≡ (n + 1) % 2 ^ 64
PutCounts (Err (IsFault fault)) n m = (fault ≡ TooManyStreams) × (m ≡ n)
PutCounts r n m = m ≡ n

-- a file is opened for writing, or it does not open
abbrev pub OpensOr : List ℕ → Bool → State → Result ℕ Stop → State → Type 0
OpensOr name append old (Ok id) new = OpensWriter name append id old new
OpensOr name append old (Err (IsFault fault)) new = (new ≡ old) × (fault ≡ OpenOutput) × ((old.outside (Named name)).opens ≡ false)
OpensOr name append old (Err OutOfMemory) new = new ≡ old

-- each stream that is open stays where it is
pub record Spares (kinds : ℕ → Kind) (old new : State) : Type 0 where
  pub readers : (k : ℕ) → kinds k ≢ Closed → new.readers k ≡ old.readers k
  pub writers : (k : ℕ) → kinds k ≢ Closed → new.writers k ≡ old.writers k

-- In every world.

-- why a text did not go out, by whether its stream was open, and whether one more could be opened
abbrev pub PutFault : Bool → Bool → List ℕ → Fault → Type 0
PutFault true room text WriteFailed = 0 < length text
PutFault false true text WriteFailed = 0 < length text
PutFault false true text OpenOutput = Unit {0}
PutFault false false text TooManyStreams = Unit {0}
PutFault _ _ text fault = ⊥

-- how putting a text ends
abbrev pub EndsPut : {A : Type 0} → Bool → Bool → List ℕ → Result A Stop → Type 0
EndsPut false false text (Ok x) = ⊥
EndsPut ready room text (Ok x) = Unit {0}
EndsPut ready room text (Err (IsFault fault)) = PutFault ready room text fault
EndsPut ready room text (Err OutOfMemory) = Unit {0}

-- Where memory was wanting, so many of the actions were done; what these are, a modelled world tells.
abbrev pub OutputPrefix : {A : Type 0} → Type 0 → (Shared → Type 0) → (Shared → HostResult (Result (Unit {0}) Fault)) → Result A Stop → State → State → Type 0
OutputPrefix tells is does (Err OutOfMemory) old new = (n : ℕ)
    × (tells → (shared : Shared) → is shared → new.outside ≡ after (take n (does shared).added) old.outside)
OutputPrefix tells is does r old new = Unit {0}

-- where memory was wanting, so many bytes of what fits have gone out
abbrev pub TextPrefix : Type 0 → ℕ → List ℕ → State → Result (Unit {0}) WorldFault → State → Type 0
TextPrefix tells id text old (Err NoMemory) new = (n : ℕ) × (tells → PutsPart n id (what_fits (free (entry_written id old)) text) old new)
TextPrefix tells id text old r new = Unit {0}

-- what goes out to a stream is looked at over this outside, where nobody else changes what names hold
pub record IsOver (state : State) (shared : Shared) : Type 0 where
  pub kept : shared.inner.finds ≡ None
  pub outside : shared.outside ≡ state.outside
