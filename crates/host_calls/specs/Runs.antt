-- What the calls of a host mean to a run, and what they give to its world.
use Rattle.std.specs.Prelude.{ℕ, List}
use Rattle.wasm_model.specs.declared.host.HostAnswer.{HostAnswer}
use Rattle.wasm_store.specs.Memories.{MemoryForm}
use Rattle.wasm_store.specs.declared.word.Word.{Word}
use Rattle.world_core.specs.Traces.{Call}
use Rattle.world_core.specs.WorldState.{Action, State}
use Rattle.host_streams.specs.Given.{Gives}
use Rattle.host_streams.specs.declared.streams.NamedWriter.{NamedWriter}
use Rattle.host_values.specs.FormMeaning.{FormState, Told, Untold, form_meaning}
use Rattle.host_calls.specs.Forms.{host_form}
use Rattle.host_calls.specs.declared.host.Host.{Host}

-- a host as a run tells it: its tables, its world, and the files that are open for writing
pub record Sight (W : Type 0) : Type 0 where
  pub tables : FormState
  pub world : W
  pub writers : List NamedWriter

abbrev pub sight : {W : Type 0} {g : _} → (W → State) → Host W g → Sight W
sight told h = record { tables = Told (host_form told h); world = h.world; writers = h.input.files.writers.items }

abbrev pub IfTold : FormState → Type 0 → Type 0
IfTold (Told form) P = P
IfTold Untold P = Unit {0}

-- this is what was given to the world, by an answer that was given
abbrev pub GaveTo : {W : Type 0} → (W → Call → W → Type 0) → Sight W → Sight W → List Action → Type 0
GaveTo did old new output = IfTold new.tables (Gives did old.world new.world old.writers new.writers output)

-- the meaning by the tables, where the output is what was given to the world
abbrev pub given_meaning : {W : Type 0} → (tells : Type 0) → (W → Call → W → Type 0) → Sight W → ℕ → List Word → MemoryForm → HostAnswer → Sight W
    → MemoryForm → List Action → Type 0
given_meaning tells did old n words mem a new mem' output =
    form_meaning tells old.tables n words mem a new.tables mem' output × GaveTo did old new output
