-- What was given to a world, whether it is modelled or not: the calls that were made of it, and the actions that they are.
use Rattle.std.specs.Prelude.{◌≡◌, ◌≢◌, ◌⊎◌, ℕ, ◌<◌, ◌≤◌, List, [], ◌∷◌, ◌++◌, length, take, Bool, if◌then◌else◌, Option, Result, Ok, Err, IfOk}
use Rattle.awk_values.specs.declared.fault.Fault.{Fault}
use Rattle.awk_values.specs.declared.fault.Fault.TheVariants.{WriteFailed}
use Rattle.awk_values.specs.declared.fault.Stop.{Stop}
use Rattle.awk_values.specs.declared.fault.Stop.TheVariants.{Fault as IsFault, NoMemory as OutOfMemory}
use Rattle.world_core.specs.declared.world.WorldFault.{WorldFault}
use Rattle.world_core.specs.declared.world.WorldFault.TheVariants.{NoMemory}
use Rattle.world_core.specs.WorldState.{Action, Named, Open, Standard, State, Target, after, free, puts}
use Rattle.world_core.specs.Calls.{Closed, Kind}
use Rattle.world_core.specs.Traces.{Call, Targets, Trace, actions_of}
use Rattle.world_core.specs.TraceParts.{targets_after}
use Rattle.sem_primitives.specs.OutputMeaning.{is_writing, what_fits, written}
use Rattle.sem_primitives.specs.SharedState.{HostResult, Shared}
use Rattle.host_streams.specs.declared.streams.NamedWriter.{NamedWriter}
use Rattle.host_streams.specs.Puts.{IsOver, PutsPart, entry_written}

-- Calls were made that open no name for writing, and these are their actions, by where each number goes.
pub record Makes {W : Type 0} (did : W → Call → W → Type 0) (old new : W) (actions : Targets → List Action) : Type 0 where
  pub calls : List Call
  pub made : Trace did old calls new
  pub gives : (targets : Targets) → actions_of calls targets ≡ actions targets
  pub same : (targets : Targets) → targets_after calls targets ≡ targets

-- the calls that were made gave nothing
abbrev pub GivesNone : {W : Type 0} → (W → Call → W → Type 0) → W → W → Type 0
GivesNone did old new = Makes did old new (λ targets. [])

-- each writer writes to its name
abbrev pub AreNamed : List NamedWriter → Targets → Type 0
AreNamed [] targets = Unit {0}
AreNamed (w ∷ ws) targets = (targets w.id ≡ Named w.name) × AreNamed ws targets

-- the standard output and these streams are open for writing
pub record AreTargets (writers : List NamedWriter) (targets : Targets) : Type 0 where
  pub standard : targets 1 ≡ Standard
  pub named : AreNamed writers targets

-- the calls that were made are these actions, to whoever knows where the streams go that are open
pub record Gives {W : Type 0} (did : W → Call → W → Type 0) (old new : W) (writers writers' : List NamedWriter) (actions : List Action) : Type 0 where
  pub calls : List Call
  pub made : Trace did old calls new
  pub gives : (targets : Targets) → AreTargets writers targets → actions_of calls targets ≡ actions
  pub left : (targets : Targets) → AreTargets writers targets → AreTargets writers' (targets_after calls targets)

-- how many bytes of a text went out, by whether putting it failed
abbrev pub SizeIs : {A E : Type 0} → List ℕ → ℕ → Result A E → Type 0
SizeIs text size (Ok x) = size ≡ length text
SizeIs text size (Err e) = size < length text

-- in this room as many as fit; short of memory a part of these
abbrev pub SizeFits : Option ℕ → List ℕ → ℕ → Result (Unit {0}) WorldFault → Type 0
SizeFits room text size (Err NoMemory) = take size text ≡ take size (what_fits room text)
SizeFits room text size r = take size text ≡ what_fits room text

-- the first bytes of a text were written to the stream of a number
pub record WritesSize {W : Type 0} (tells : Type 0) (did : W → Call → W → Type 0) (old new : W) (id : ℕ) (text : List ℕ) (before now : State)
    (r : Result (Unit {0}) WorldFault) : Type 0 where
  pub size : ℕ
  pub made : Makes did old new (λ targets. puts (targets id) (take size text))
  pub is : SizeIs text size r
  pub fits : tells → SizeFits (free (entry_written id before)) text size r
  pub does : tells → PutsPart size id text before now

-- these actions are what was to be done; short of memory they are the first of it
abbrev pub IsOutput : {A : Type 0} → List Action → HostResult (Result (Unit {0}) Fault) → Result A Stop → Type 0
IsOutput actions does (Err OutOfMemory) = (n : ℕ) × (actions ≡ take n does.added)
IsOutput actions does r = actions ≡ does.added

-- the same of a text that was put to a stream that is open
pub record PutsSize {W : Type 0} (tells : Type 0) (did : W → Call → W → Type 0) (old new : W) (id : ℕ) (text : List ℕ) (before now : State)
    (r : Result (Unit {0}) Stop) : Type 0 where
  pub size : ℕ
  pub made : Makes did old new (λ targets. puts (targets id) (take size text))
  pub is : SizeIs text size r
  pub told : tells → (shared : Shared) → IsOver before shared
      → IsOutput (puts (before.writers id) (take size text)) (written (before.writers id) text shared) r
  pub outside : tells → now.outside ≡ after (puts (before.writers id) (take size text)) before.outside

-- What was given of a text: all of it, behind the opening if there was one; where a write failed not all of it; where nothing was opened nothing. Short of
-- memory its first bytes, or nothing.
abbrev pub GivesText : {A : Type 0} → List Action → Target → List ℕ → Result A Stop → List Action → Type 0
GivesText opening target text (Ok x) actions = actions ≡ opening ++ puts target text
GivesText opening target text (Err (IsFault WriteFailed)) actions = (n : ℕ) × (n < length text) × (actions ≡ opening ++ puts target (take n text))
GivesText opening target text (Err (IsFault fault)) actions = actions ≡ []
GivesText opening target text (Err OutOfMemory) actions = (actions ≡ []) ⊎ ((n : ℕ) × (n ≤ length text) × (actions ≡ opening ++ puts target (take n text)))

-- A name was opened, and a text was put to it. The streams that were open go where they went.
pub record PutsNew {W : Type 0} (tells : Type 0) (did : W → Call → W → Type 0) (old new : W) (kinds : ℕ → Kind) (name : List ℕ)
    (is : List Action → Type 0) (before now : State) (r : Result ℕ Stop) (does : Shared → HostResult (Result (Unit {0}) Fault)) : Type 0 where
  pub calls : List Call
  pub made : Trace did old calls new
  pub actions : List Action
  pub gives : (targets : Targets) → actions_of calls targets ≡ actions
  pub stay : (targets : Targets) (k : ℕ) → kinds k ≢ Closed → targets_after calls targets k ≡ targets k
  pub goes : (targets : Targets) → IfOk r (λ id. targets_after calls targets id ≡ Named name)
  pub text : is actions
  pub told : tells → (shared : Shared) → IsOver before shared → IsOutput actions (does shared) r
  pub outside : tells → now.outside ≡ after actions before.outside

-- A text was put out: what was given, in every world; where the world is modelled, this is what was to be done.
pub record PutsGiven {W : Type 0} (tells : Type 0) (did : W → Call → W → Type 0) (old new : W) (writers writers' : List NamedWriter) (text : List Action
    → Type 0)
    (before now : State) (r : Result (Unit {0}) Stop) (over : Shared → Type 0) (does : Shared → HostResult (Result (Unit {0}) Fault)) : Type 0 where
  pub actions : List Action
  pub given : Gives did old new writers writers' actions
  pub is : text actions
  pub told : tells → (shared : Shared) → over shared → IsOutput actions (does shared) r
  pub outside : tells → now.outside ≡ after actions before.outside

-- a name that is not open yet is opened
abbrev pub opening_of : List ℕ → Bool → List (List ℕ) → List Action
opening_of name append names = if is_writing name names then [] else (Open name append ∷ [])
