-- Texts that go to files by their names, as the definition of printing has it.
use Rattle.std.specs.Prelude.{◌≡◌, ℕ, List, [], ◌∷◌, ◌++◌, if◌then◌else◌, Bool, true, false, None, Result, Ok, Err}
use Rattle.awk_values.specs.declared.fault.Fault.{Fault}
use Rattle.awk_values.specs.declared.fault.Stop.{Stop}
use Rattle.awk_values.specs.declared.fault.Stop.TheVariants.{Fault as IsFault, NoMemory}
use Rattle.world_core.specs.Traces.{Call}
use Rattle.world_core.specs.WorldState.{Action, State, Named}
use Rattle.world_core.specs.WorldState as world
use Rattle.sem_primitives.specs.SharedState.{Shared, HostResult}
use Rattle.sem_primitives.specs.OutputMeaning.{is_writing, put_text}
use Rattle.sem_primitives.specs.declared.constants.Destination.{Destination}
use Rattle.sem_primitives.specs.declared.constants.Destination.TheVariants as destination
use Rattle.host_streams.specs.declared.output.Target.{Target}
use Rattle.host_streams.specs.declared.output.Target.TheVariants.{Standard, Emptied, Appended}
use Rattle.host_streams.specs.declared.streams.Streams.{Streams}
use Rattle.host_streams.specs.Given.{GivesText, PutsGiven, opening_of}
use Rattle.host_streams.specs.OpenFiles.{has_room, names_of, readers_in}
use Rattle.host_streams.specs.Puts.{OutputPrefix, EndsPut, HasBegun, HasDone}

-- this is what the definition speaks of: the files that are open, and the outside, where nobody else changes what names hold
pub record IsOf (s : Streams) (state : State) (shared : Shared) : Type 0 where
  pub kept : shared.inner.finds ≡ None
  pub readers : shared.inner.readers ≡ readers_in s.readers.items state
  pub writers : shared.inner.writers ≡ names_of s.writers.items
  pub outside : shared.outside ≡ state.outside

abbrev pub destination_of : Target → Destination
destination_of Standard = destination.Standard
destination_of (Emptied name) = destination.Emptied
destination_of (Appended name) = destination.Appended

abbrev pub name_of : Target → List ℕ
name_of Standard = []
name_of (Emptied name) = name.now
name_of (Appended name) = name.now

-- a file that is open for writing stays so, and one that is not is opened last
abbrev pub with_writer : List ℕ → List (List ℕ) → List (List ℕ)
with_writer name names = if is_writing name names then names else names ++ (name ∷ [])

abbrev pub writers_to : Target → List (List ℕ) → List (List ℕ)
writers_to Standard names = names
writers_to (Emptied name) names = with_writer name.now names
writers_to (Appended name) names = with_writer name.now names

-- what is to be done was done, and these are the names that are open for writing now; short of memory no name more
abbrev pub PutsIs : HostResult (Result (Unit {0}) Fault) → Result (Unit {0}) Stop → State → State → List (List ℕ) → List (List ℕ) → Type 0
PutsIs does (Ok x) old new before now = HasDone does (Ok x) old new × (now ≡ does.inner.writers)
PutsIs does (Err (IsFault fault)) old new before now = HasDone does (Err fault) old new × (now ≡ does.inner.writers)
PutsIs does (Err NoMemory) old new before now = HasBegun does.added old new × (now ≡ before)

-- whether a target is open before a text is put
abbrev pub open_before : Target → List (List ℕ) → Bool
open_before Standard names = true
open_before (Emptied name) names = is_writing name.now names
open_before (Appended name) names = is_writing name.now names

-- A text was put to a target as printing has it: what was done, the answer, and the files that are open for writing.
abbrev pub PutsTo : Target → List ℕ → Streams → State → Result (Unit {0}) Stop → Streams → State → Type 0
PutsTo target text old before answer new after =
    (shared : Shared) → IsOf old before shared
    → PutsIs (put_text (destination_of target) (name_of target) text shared) answer before after
    (names_of old.writers.items) (names_of new.writers.items)

-- short of memory a number of the first actions was done
abbrev pub BeginsPutTo : Type 0 → Target → List ℕ → Streams → State → Result (Unit {0}) Stop → State → Type 0
BeginsPutTo tells target text old before answer after =
    OutputPrefix tells (IsOf old before) (put_text (destination_of target) (name_of target) text) answer
    before after

-- how putting a text ends, by what was open before
abbrev pub EndsPutTo : Target → List ℕ → Streams → Result (Unit {0}) Stop → Type 0
EndsPutTo target text old answer =
    EndsPut (open_before target (names_of old.writers.items)) (has_room old) text answer

-- the name that is opened, if one is, and where the text goes
abbrev pub opening_to : Target → List (List ℕ) → List Action
opening_to Standard names = []
opening_to (Emptied name) names = opening_of name.now false names
opening_to (Appended name) names = opening_of name.now true names

abbrev pub target_of : Target → world.Target
target_of Standard = world.Standard
target_of (Emptied name) = Named name.now
target_of (Appended name) = Named name.now

-- what was given where a text was put to a target
abbrev pub PutsGivenTo : {W : Type 0} → Type 0 → (W → Call → W → Type 0) → Target → List ℕ → W → W → Streams → Streams → State → State
    → Result (Unit {0}) Stop → Type 0
PutsGivenTo tells did target text before after old new state state' answer =
    PutsGiven tells did before after old.writers.items new.writers.items
    (GivesText (opening_to target (names_of old.writers.items)) (target_of target) text answer) state state' answer
    (IsOf old state) (put_text (destination_of target) (name_of target) text)
