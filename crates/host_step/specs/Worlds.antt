-- Calls of a host over a world, which may not tell what it holds: real files do not.
use Rattle.std.specs.Prelude.{ℕ, ◌≡◌, ◌≢◌, Bool, true, false, List, ◌++◌, Option}
use Rattle.sem_primitives.specs.declared.table.Primitive.TheVariants as row
use Rattle.wasm_model.specs.Hosts.{Typed}
use Rattle.wasm_model.specs.declared.host.HostAnswer.{HostAnswer}
use Rattle.wasm_model.specs.declared.host.HostAnswer.TheVariants as told
use Rattle.wasm_store.specs.declared.word.Word.{Word}
use Rattle.world_core.specs.WorldState.{Action, after}
use Rattle.host_imports.specs.Imports.{type_if_there}
use Rattle.host_step.specs.HostState.{HostState}
use Rattle.host_step.specs.HostStep.{StepIf}
use Rattle.host_imports.specs.declared.import.Import.{Import}
use Rattle.host_imports.specs.declared.import.Import.TheVariants.{OfPrimitive}

-- the state of a host over a world keeps no output: this much came before
abbrev pub with_output : List Action → HostState → HostState
with_output so_far s = record s { shared = record s.shared { output = so_far } }

-- which calls read the main input
abbrev pub reads_main : Import → Bool
reads_main (OfPrimitive row.NextMain) = true
reads_main (OfPrimitive row.Getline) = true
reads_main (OfPrimitive row.GetlineVar) = true
reads_main _ = false

-- A call that wants no memory: a step, where the world is modelled.
pub record Called (tells : Type 0) (import : Option Import) (before : HostState) (words : List Word) (memory : List ℕ) (a : HostAnswer)
    (after-call : HostState) (output : List Action) : Type 0 where
  pub typed : Typed (type_if_there import) a
  pub step : tells → (so_far : List Action)
      → StepIf import (with_output so_far before) words memory a (with_output (so_far ++ output) after-call) output

-- Memory was wanting in a call. Where the world is modelled, what was written by then is how the output of another answer begins.
pub record Wanted (import : Option Import) (before : HostState) (words : List Word) (memory : List ℕ) (after-call : HostState)
    (output : List Action) : Type 0 where
  pub outside : after-call.shared.outside ≡ after output before.shared.outside
  pub answer : HostAnswer
  pub answered : answer ≢ told.NoMemory
  pub state : HostState
  pub rest : List Action
  pub step : StepIf import before words memory answer state (output ++ rest)
