-- What a module's run tells the outside, and when it agrees with a script: with what the script (or its mid code) does in a job and a world.
use Rattle.std.specs.Prelude.{◌≡◌, ℕ, ◌+◌, ◌*◌, ◌≤◌, ℤ, pos, unsigned_abs, List, Option, Some, None}
use Rattle.std.specs.Int.{int_rem_euclid}
use Rattle.awk_values.specs.declared.fault.Fault.{Fault}
use Rattle.sem_primitives.specs.Jobs.{JobForm, Environment}
use Rattle.world_core.specs.WorldState.{Action, Source}
use Rattle.wasm_types.specs.Syntax.{ModuleForm}
use Rattle.wasm_store.specs.declared.trap.TrapKind.{TrapKind}
use Rattle.wasm_model.specs.Links.{IsNew}
use Rattle.wasm_model.specs.Machines.{Conf}
use Rattle.wasm_model.specs.Runs.{MachineForm, Ran, told_run}
use Rattle.wasm_model.specs.declared.ends.RunEnd.{RunEnd}
use Rattle.wasm_model.specs.declared.ends.MachineEnd.{MachineEnd}
use Rattle.wasm_model.specs.declared.ends.MachineEnd.TheVariants as machine
use Rattle.host_step.specs.HostState.{HostState}
use Rattle.host_imports.specs.Imports.{host_finds}
use Rattle.host_step.specs.Starts.{state_in}
use Rattle.sem_scripts.specs.MoreTurns.{Grows, output_of}
use Rattle.sem_scripts.specs.ScriptRun.{Setting, Ending, Ended, FaultedBy, GoesOn, Exhausted, setting_in}
use Rattle.agreement.specs.Modules.TableMeaning.{table_meaning}
use Rattle.agreement.specs.Modules.Over.{IsOver}

-- a run ends as a script's may, or traps
pub data ModuleEnding : Type 0 where
  Like : Ending → ModuleEnding
  Trapped : TrapKind → List Action → ModuleEnding

-- the status is `main`'s result modulo 256, where no fault is kept
abbrev pub ended_with : Option Fault → ℤ → List Action → Ending
ended_with (Some fault) n output = FaultedBy fault output
ended_with None n output = Ended (unsigned_abs (int_rem_euclid n (pos 256))) output

-- of a run that did not want memory
abbrev pub ending_told : Option Fault → MachineEnd → List Action → Option ModuleEnding
ending_told kept (machine.Returned n) output = Some (Like (ended_with kept n output))
ending_told kept (machine.Trapped kind) output = Some (Trapped kind output)
ending_told kept machine.OutOfSteps output = Some (Like (GoesOn output))
ending_told kept machine.Exhausted output = Some (Like (Exhausted output))
ending_told kept machine.NoMemory output = None

abbrev pub output_in : ModuleEnding → List Action
output_in (Like e) = output_of e
output_in (Trapped kind output) = output

-- How a module may end that is given so many steps, in a job and a world: linked with a host of the table, from the beginning, with whatever free
-- numbers the host gives to what is new.
pub record MayEnd (m : ModuleForm) (job : JobForm) (input : Source) (outside : Environment) (steps : ℕ) (e : ModuleEnding) : Type 0 where
  pub machine : MachineForm
  pub is_new : IsNew host_finds m machine
  pub run-end : RunEnd
  pub told : MachineEnd
  pub telling : told_run run-end ≡ Some told
  pub conf : Conf
  pub state : HostState
  pub output : List Action
  pub ran : Ran table_meaning machine.program steps machine.conf (state_in job input outside) output run-end conf state
  pub ending : ending_told state.fault told output ≡ Some e

-- A script and a module agree, in every job and whatever the outside is: what one does the other does, faults and too many nested calls included, and
-- while it goes on both have put out the same so far. The module never traps, its work is bounded for each turn by one number for all jobs, outsides
-- and turns, and it does not matter which free numbers the host picks. `script` is what the script does within so many turns.
pub record Agreement (script : Setting → ℕ → Ending) (m : ModuleForm) : Type 0 where
  pub bound : ℕ
  pub one_run : (job : JobForm) (input : Source) (outside : Environment) (steps : ℕ) (e f : ModuleEnding) → MayEnd m job input outside steps e
      → MayEnd m job input outside steps f → e ≡ f
  pub forward : (job : JobForm) (input : Source) (outside : Environment) (turns : ℕ) (e : Ending) → IsOver e → script (setting_in job input outside) turns ≡ e →
      (enough : ℕ) × (enough ≤ bound * (turns + 1)) × ((steps : ℕ) (f : ModuleEnding) → enough ≤ steps → MayEnd m job input outside steps f → f ≡ Like e)
  pub backward : (job : JobForm) (input : Source) (outside : Environment) (steps : ℕ) (e : Ending) → IsOver e → MayEnd m job input outside steps (Like e) →
      (turns : ℕ) × (script (setting_in job input outside) turns ≡ e)
  pub never_trapped : (job : JobForm) (input : Source) (outside : Environment) (steps : ℕ) (kind : TrapKind) (output : List Action)
      → MayEnd m job input outside steps (Trapped kind output) → ⊥
  pub output_module : (job : JobForm) (input : Source) (outside : Environment) (steps : ℕ) (e : ModuleEnding) → MayEnd m job input outside steps e →
      (turns : ℕ) × Grows (output_in e) (output_of (script (setting_in job input outside) turns))
  pub output_script : (job : JobForm) (input : Source) (outside : Environment) (turns : ℕ) →
      (enough : ℕ) × (enough ≤ bound * (turns + 1)) × ((steps : ℕ) (e : ModuleEnding) → enough ≤ steps → MayEnd m job input outside steps e
      → Grows (output_of (script (setting_in job input outside) turns)) (output_in e))
