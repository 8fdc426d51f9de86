-- What is said of a call that writes, beside what it is on a host's tables.
use Rattle.std.specs.Prelude.{◌≡◌, ℕ, ◌+◌, ◌%◌, ◌^◌, List, ◌++◌, length, Option, Some, Result, Ok, Err}
use Rattle.awk_values.specs.declared.fault.Stop.{Stop}
use Rattle.awk_values.specs.declared.fault.Stop.TheVariants as stop
use Rattle.awk_values.specs.declared.fault.Fault.{Fault}
use Rattle.awk_values.specs.declared.fault.Fault.TheVariants.{OpenOutput, WriteFailed}
use Rattle.world_core.specs.Calls.{Kind}
use Rattle.sem_primitives.specs.SharedState.{HostResult, Shared}
use Rattle.world_core.specs.WorldState.{Action, Entry, State, after}
use Rattle.world_core.specs.Traces.{Call}
use Rattle.wasm_store.specs.declared.word.Word.{Word}
use Rattle.wasm_store.specs.declared.word.Word.TheVariants.{I32}
use Rattle.host_step.specs.declared.refusal.Refusal.{Refusal}
use Rattle.host_step.specs.declared.refusal.Refusal.TheVariants as why
use Rattle.host_streams.specs.Given.{Gives, IsOutput}
use Rattle.host_streams.specs.OpenFiles.{HoldsOpen, OthersStay, WritersGo, names_of}
use Rattle.host_streams.specs.Outputs.{IsOf, PutsIs}
use Rattle.host_streams.specs.Puts.{Spares}
use Rattle.host_streams.specs.declared.streams.Streams.{Streams}

-- The files that are open stay so, each by itself, writers write to their names, readers keep what they have; every other stream stays so, none is
-- opened and lost, and each stays where it is.
pub record Keeps (tells : Type 0) (kinds kinds' : ℕ → Kind) (state state' : State) (streams streams' : Streams) : Type 0 where
  pub held : HoldsOpen streams' kinds'
  pub goes : tells → WritersGo streams'.writers.items state'
  pub readers : streams'.readers ≡ streams.readers
  pub others : OthersStay streams streams' kinds kinds'
  pub no_others : OthersStay streams' streams kinds' kinds
  pub spares : tells → Spares kinds state state'

-- the world's failures go up by one where a write or an opening fails, and nowhere else
abbrev pub CountsFailure : Result (Option Word) Refusal → ℕ → ℕ → Type 0
CountsFailure (Err (why.Fault WriteFailed)) n m = m ≡ (n + 1) % 2 ^ 64
CountsFailure (Err (why.Fault OpenOutput)) n m = m ≡ (n + 1) % 2 ^ 64
CountsFailure _ n m = m ≡ n

-- the answer to a text that was put out, or was not
abbrev pub answer_of : Result (Unit {0}) Stop → Result (Option Word) Refusal
answer_of (Ok u) = Ok (Some (I32 0))
answer_of (Err (stop.Fault f)) = Err (why.Fault f)
answer_of (Err stop.NoMemory) = Err why.NoMemory

-- What went out, the answer and the files that are open for writing are those of the definition.
abbrev pub PutsAs : (Shared → HostResult (Result (Unit {0}) Fault)) → Streams → State → Result (Unit {0}) Stop → Streams → State → Type 0
PutsAs does old before answer new after =
    (shared : Shared) → IsOf old before shared
    → PutsIs (does shared) answer before after (names_of old.writers.items) (names_of new.writers.items)

-- In every world.

-- files of these names are open
pub record HasFiles (streams : Streams) (shared : Shared) : Type 0 where
  pub readers : length shared.inner.readers ≡ length streams.readers.items
  pub writers : shared.inner.writers ≡ names_of streams.writers.items

-- where others change what names hold too, and these are found
abbrev pub finding : List Entry → Shared → Shared
finding finds shared = record shared { inner = record shared.inner { finds = Some finds } }

-- what is left of what is found now and later
abbrev pub left_by : Result (Unit {0}) Fault → List Entry → List Entry → List Entry
left_by (Ok u) found later = later
left_by (Err fault) found later = found ++ later

-- It answers so, puts this out, and leaves these files open for writing; and then these are found.
pub record PutsFound (d : HostResult (Result (Unit {0}) Fault)) (streams' : Streams) (answer : Result (Unit {0}) Fault) (added : List Action)
    (rest : List Entry) : Type 0 where
  pub answer_is : d.answer ≡ answer
  pub writers : d.inner.writers ≡ names_of streams'.writers.items
  pub added_is : d.added ≡ added
  pub finds : d.inner.finds ≡ Some rest

-- Something is found where the definition answers so and puts this out, whatever is found later.
abbrev pub SomeFound : (Shared → HostResult (Result (Unit {0}) Fault)) → Streams → Streams → Result (Unit {0}) Fault → List Action → Type 0
SomeFound does streams streams' answer added = (found : List Entry) × ((later : List Entry) (shared : Shared) → HasFiles streams shared
    → PutsFound (does (finding (found ++ later) shared)) streams' answer added (left_by answer found later))

abbrev pub PossibleOutcome : (Shared → HostResult (Result (Unit {0}) Fault)) → Streams → Streams → Result (Unit {0}) Stop → List Action → Type 0
PossibleOutcome does streams streams' (Ok u) added = SomeFound does streams streams' (Ok tt) added
PossibleOutcome does streams streams' (Err (stop.Fault f)) added = SomeFound does streams streams' (Err f) added
PossibleOutcome does streams streams' (Err stop.NoMemory) added = Unit {0}

-- A text was put out: the calls that were made of the world are these actions. Unless memory was wanting, the definition puts these out where something is
-- found. In a modelled world they are what it puts out over what that holds, short of memory the first of it; and they are what was done to that.
pub record OutputGiven {W : Type 0} (tells : Type 0) (did : W → Call → W → Type 0) (old new : W) (streams streams' : Streams) (before now : State)
    (r : Result (Unit {0}) Stop) (does : Shared → HostResult (Result (Unit {0}) Fault)) : Type 0 where
  pub actions : List Action
  pub given : Gives did old new streams.writers.items streams'.writers.items actions
  pub could : PossibleOutcome does streams streams' r actions
  pub told : tells → (shared : Shared) → IsOf streams before shared → IsOutput actions (does shared) r
  pub outside : tells → now.outside ≡ after actions before.outside
