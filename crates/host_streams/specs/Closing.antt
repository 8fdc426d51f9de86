-- Files that are closed, as the definition has it.
use Rattle.std.specs.Prelude.{◌≡◌, ◌||◌, ℕ, List, Bool, if◌then◌else◌}
use Rattle.awk_values.specs.declared.value.Value.TheVariants.{Text}
use Rattle.world_core.specs.WorldState.{State}
use Rattle.sem_primitives.specs.InputMeaning.{close_row}
use Rattle.sem_primitives.specs.OutputMeaning.{is_writing}
use Rattle.sem_primitives.specs.SharedState.{Inner, Shared}
use Rattle.sem_primitives.specs.declared.answers.StreamAnswer.{StreamAnswer}
use Rattle.sem_primitives.specs.declared.answers.StreamAnswer.TheVariants as stream
use Rattle.host_streams.specs.declared.streams.Streams.{Streams}
use Rattle.host_streams.specs.OpenFiles.{has_reader, names_of, readers_in}
use Rattle.host_streams.specs.Outputs.{IsOf}

-- these files are open now, and this was to be answered
pub record ClosesBy (x : Inner × StreamAnswer) (closed : Bool) (s : Streams) (state : State) : Type 0 where
  pub readers : readers_in s.readers.items state ≡ x.0.readers
  pub writers : names_of s.writers.items ≡ x.0.writers
  pub answer : (if closed then stream.Done else stream.NotOpen) ≡ x.1

-- whether the name is open, for reading or for writing
abbrev pub is_open : List ℕ → Streams → Bool
is_open name s = has_reader name s.readers.items || is_writing name (names_of s.writers.items)

-- a name was closed, as the definition does
abbrev pub ClosesName : List ℕ → Streams → State → Bool → Streams → State → Type 0
ClosesName name old before closed new after =
    (shared : Shared) → IsOf old before shared
    → ClosesBy (close_row (Text name) shared.inner) closed new after
