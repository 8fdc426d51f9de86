-- What an end that is told says of a script, computed.
use Rattle.std.specs.Prelude.{pos, List, ◌++◌, Some, None, refl}
use Rattle.awk_values.specs.declared.fault.Fault.TheVariants.{TextLimit}
use Rattle.world_core.specs.WorldState.{Action}
use Rattle.wasm_model.specs.declared.ends.MachineEnd.TheVariants as machine
use Rattle.wasm_store.specs.declared.trap.TrapKind.TheVariants.{BadHandle}
use Rattle.sem_scripts.specs.ScriptRun.{Ended, Exhausted, FaultedBy, GoesOn}
use Rattle.agreement.specs.Runs.ToldRuns.{Says}
use Rattle.agreement.specs.Runs.MachineEnds.{told_by}

module _ (output more : List Action) where
  -- a status; a fault, whatever was returned; too many nested calls
  pub ended : Says (told_by None (machine.Returned (pos 3))) output (Ended 3 output)
  ended = refl

  pub status_of_259 : Says (told_by None (machine.Returned (pos 259))) output (Ended 3 output)
  status_of_259 = refl

  pub faulted : Says (told_by (Some TextLimit) (machine.Returned (pos 3))) output (FaultedBy TextLimit output)
  faulted = refl

  pub exhausted : Says (told_by None machine.Exhausted) output (Exhausted output)
  exhausted = refl

  -- where steps or memory did not suffice, the script has put out more, however it ends
  pub goes_on : Says (told_by None machine.OutOfSteps) output (GoesOn (output ++ more))
  goes_on = (more, refl)

  pub wanting : Says (told_by None machine.NoMemory) output (Ended 0 (output ++ more))
  wanting = (more, refl)

  -- it never traps
  pub never_trapped : Says (told_by None (machine.Trapped BadHandle)) output (Ended 0 output) → ⊥
  never_trapped says = says
