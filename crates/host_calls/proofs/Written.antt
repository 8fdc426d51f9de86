-- What the calls that write and close keep of the main input.
use Rattle.std.proofs.Common.{◌≡◌, ℕ, List, Option, None, Result}
use Rattle.wasm_store.specs.declared.word.Word.{Word}
use Rattle.world_core.specs.Calls.{Kind, Reading}
use Rattle.world_core.specs.WorldState.{Action, State}
use Rattle.host_imports.specs.declared.import.Import.{Import}
use Rattle.host_step.specs.declared.refusal.Refusal.{Refusal}
use Rattle.host_values.specs.Forms.{HostForm}
use Rattle.host_streams.specs.Mains.{main_of}
use Rattle.host_streams.specs.OpenFiles.{OthersKeep}
use Rattle.host_streams.specs.Puts.{Spares}
use Rattle.host_worlds.specs.States.{HoldsInput}
use Rattle.host_worlds.specs.declared.input.Input.{Input}
use Rattle.host_worlds.proofs.Apart.{main_stays}
use Rattle.host_values.specs.WorldCalls.{IsCalled}
use Rattle.host_calls.specs.Calls.{ComesTo}
use Rattle.host_calls.proofs.Moved.{with_main, wrote_comes}

pub others_keep : (i : Input) (kinds : ℕ → Kind) (old new : State) → Spares kinds old new → OthersKeep i.files kinds old new
others_keep i kinds old new spares k none is = (spares.readers k is, spares.writers k is)

-- a call that writes or closes, over a world whose standard input is open
module _ (tells : Type 0) (given : List Action → Type 0) (i : Import) (words : List Word) (memory : List ℕ)
    (input : Input) (kinds : ℕ → Kind) (held : HoldsInput input kinds) (standard : kinds 0 ≡ Reading)
    (old new : State) (keeps : tells → OthersKeep input.files kinds old new) where
  pub files_come : (before f : HostForm) (r : Result (Option Word) Refusal) → before.fault ≡ None
      → (output : List Action) × given output × IsCalled tells i before words memory r (with_main (main_of input.main old) f) output
      → ComesTo tells given i before words memory r (with_main (main_of input.main new) f)
  files_come before f r none calls =
      wrote_comes tells given i words memory before f (main_of input.main old) (main_of input.main new)
      (λ t. main_stays input kinds held standard old new (keeps t)) r none calls.0 calls.1 calls.2
