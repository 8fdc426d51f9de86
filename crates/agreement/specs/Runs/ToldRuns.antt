-- What a machine tells of a run whose host is told by its tables.
use Rattle.std.specs.Prelude.{◌≡◌, ℕ, ◌+◌, ◌*◌, ◌≤◌, List, ◌++◌, Option, Some}
use Rattle.awk_values.specs.declared.fault.Fault.{Fault}
use Rattle.sem_primitives.specs.InputParts.{to_come}
use Rattle.sem_primitives.specs.Jobs.{Opened, JobForm, Closed, Environment}
use Rattle.world_core.specs.WorldState.{Action, Entry, Outside, Source, after as outside_after}
use Rattle.wasm_types.specs.Syntax.{ModuleForm}
use Rattle.wasm_model.specs.Hosts.{Meaning}
use Rattle.wasm_model.specs.Machines.{Conf, ProgramForm}
use Rattle.wasm_model.specs.Runs.{Ran}
use Rattle.wasm_model.specs.declared.ends.MachineEnd.{MachineEnd}
use Rattle.wasm_model.specs.declared.ends.MachineEnd.TheVariants as machine
use Rattle.wasm_model.specs.declared.ends.RunEnd.{RunEnd}
use Rattle.wasm_model.specs.declared.ends.RunEnd.TheVariants.{Ended, NoMemory, OutOfSteps}
use Rattle.host_values.specs.Forms.{HostForm}
use Rattle.sem_scripts.specs.MoreTurns.{Grows, output_of}
use Rattle.sem_scripts.specs.ScriptRun.{Ending, Setting, setting_in, setting_of}
use Rattle.agreement.specs.Modules.Agreement.{MayEnd, ModuleEnding, ending_told, output_in}
use Rattle.agreement.specs.Modules.Over.{IsOver}

-- what was told, with this fault kept and this output, is how the module may end
abbrev pub TellsEnding : ModuleForm → JobForm → Source → Environment → ℕ → Option Fault → MachineEnd → List Action → Type 0
TellsEnding m job input outside steps kept e output = (ending : ModuleEnding) × (ending_told kept e output ≡ Some ending)
    × MayEnd m job input outside steps ending

-- Where memory was wanting, the module may end with an output that begins so.
abbrev pub Tells : ModuleForm → JobForm → Source → Environment → ℕ → Option Fault → MachineEnd → List Action → Type 0
Tells m job input outside steps kept machine.NoMemory output =
    (fewer : ℕ) × (fewer ≤ steps) × (ending : ModuleEnding) × (rest : List Action) × (output_in ending ≡ output ++ rest)
    × MayEnd m job input outside fewer ending
Tells m job input outside steps kept e output = TellsEnding m job input outside steps kept e output

-- A run of a module in a job, over a modelled world: what was told of it, and what the names outside hold then.
pub record ToldRun (m : ModuleForm) (job : JobForm) (input : Source) (outside : Outside) (steps : ℕ) (e : MachineEnd) (after-run : HostForm) : Type 0 where
  pub output : List Action
  pub tells : Tells m job input (Closed outside) steps after-run.fault e output
  pub applied : after-run.shared.outside ≡ outside_after output outside

-- what a run put out; where a step wanted memory, what was put out before that step
abbrev pub done_output : {H O : Type 0} (M : Meaning H O) (m : ProgramForm) (n : ℕ) (c : Conf) (h : H) (out : List O) (r : RunEnd) (c' : Conf) (h' : H)
    → Ran M m n c h out r c' h' → List O
done_output M m n c h out NoMemory c' h' ran = ran.4
done_output M m n c h out OutOfSteps c' h' ran = out
done_output M m n c h out (Ended e) c' h' ran = out

-- A run of a module in a job, over any world, with this output: how the module may end in an environment that others change too, where each opening, read and
-- write finds the next of some list. Where memory was wanting, the module may end with an output that begins so.
pub record FoundRun (m : ModuleForm) (job : JobForm) (steps : ℕ) (e : MachineEnd) (after-run : HostForm) (output : List Action) : Type 0 where
  pub finds : List Entry
  pub tells : Tells m job to_come (Opened finds) steps after-run.fault e output

-- What is told of a script: how it ends; that it puts something out, where steps or memory did not suffice; or what no script does.
pub data Told : Type 0 where
  Ends : (List Action → Ending) → Told
  PutsOut Never : Told

-- what that says of how the script ends, after this output: so; or that it has put out so much at least
abbrev pub Says : Told → List Action → Ending → Type 0
Says (Ends how) output ending = ending ≡ how output
Says PutsOut output ending = Grows output (output_of ending)
Says Never output ending = ⊥

-- The script does so, in this job, over this input and what the names outside hold, within some number of turns; and they hold then what this output makes of it.
pub record DoesSo (script : Setting → ℕ → Ending) (job : JobForm) (input : Source) (outside : Outside) (told : Told) (held : Outside) : Type 0 where
  pub turns : ℕ
  pub output : List Action
  pub says : Says told output (script (setting_of job input outside) turns)
  pub applied : held ≡ outside_after output outside

-- The script does so, with this output, in this job, in an environment that others change too, where each time that something is opened, read or written these
-- are found, within some number of turns.
pub record DoesSoThere (script : Setting → ℕ → Ending) (job : JobForm) (finds : List Entry) (told : Told) (output : List Action) : Type 0 where
  pub turns : ℕ
  pub says : Says told output (script (setting_in job to_come (Opened finds)) turns)

-- The script goes on there: within so many turns as these steps suffice for, so many for each turn, it is not over.
abbrev pub GoesOnThere : (Setting → ℕ → Ending) → JobForm → List Entry → (bound steps : ℕ) → Type 0
GoesOnThere script job finds bound steps = (turns : ℕ) → bound * (turns + 1) ≤ steps
    → IsOver (script (setting_in job to_come (Opened finds)) turns) → ⊥
