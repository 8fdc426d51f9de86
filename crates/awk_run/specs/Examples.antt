-- What is told of a machine's end, and what that says of a script, computed.
use Rattle.std.specs.Prelude.{◌≡◌, pos, List, ◌++◌, Some, None, refl}
use Rattle.awk_values.specs.declared.fault.Fault.TheVariants.{Range, TextLimit}
use Rattle.world_core.specs.WorldState.{Action}
use Rattle.wasm_model.specs.declared.ends.MachineEnd.TheVariants as machine
use Rattle.wasm_store.specs.declared.trap.TrapKind.TheVariants.{BadHandle}
use Rattle.sem_scripts.specs.ScriptRun.{Ended, Exhausted, FaultedBy, GoesOn}
use Rattle.run_modules.specs.ModuleRun.{run_end}
use Rattle.agreement.specs.Runs.ToldRuns.{Says}
use Rattle.awk_run.specs.ScriptRuns.{told_of}
use Rattle.run_report.specs.declared.end.RunEnd.TheVariants as run

-- a status is taken modulo 256; a fault that is kept comes before it
pub status : run_end None (machine.Returned (pos 3)) ≡ run.Ended 3
status = refl

pub status_of_259 : run_end None (machine.Returned (pos 259)) ≡ run.Ended 3
status_of_259 = refl

pub fault : run_end (Some Range) (machine.Returned (pos 3)) ≡ run.Faulted Range
fault = refl

-- any other end is told whatever fault is kept
pub trap : run_end (Some Range) (machine.Trapped BadHandle) ≡ run.Trapped BadHandle
trap = refl

pub steps : run_end (Some Range) machine.OutOfSteps ≡ run.OutOfSteps
steps = refl

module _ (output more : List Action) where
  -- a status, a fault, too many nested calls
  pub ended : Says (told_of (run.Ended 3)) output (Ended 3 output)
  ended = refl

  pub faulted : Says (told_of (run.Faulted TextLimit)) output (FaultedBy TextLimit output)
  faulted = refl

  pub exhausted : Says (told_of run.Exhausted) output (Exhausted output)
  exhausted = refl

  -- where steps or memory did not suffice, the script has put out more, however it ends
  pub goes_on : Says (told_of run.OutOfSteps) output (GoesOn (output ++ more))
  goes_on = (more, refl)

  pub wanting : Says (told_of run.NoMemory) output (Ended 0 (output ++ more))
  wanting = (more, refl)

  -- it never traps
  pub never_trapped : Says (told_of (run.Trapped BadHandle)) output (Ended 0 output) → ⊥
  never_trapped says = says
