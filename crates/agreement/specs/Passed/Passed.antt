-- Which places of statements a run of a module passes, and when. A place is the code from a statement's `nop` on, to the end of its block. Whatever
-- one would see of places is said by a probe: actions that are added to the output each time that a place is passed, any that one likes. So what is
-- put out with a probe shows the places that a run passes, in their order, and among what it puts out.
use Rattle.std.specs.Prelude.{◌≡◌, ℕ, zero, suc, ◌≤◌, List, [], ◌++◌, Some}
use Rattle.sem_primitives.specs.Jobs.{JobForm, Environment}
use Rattle.world_core.specs.WorldState.{Action, Source}
use Rattle.wasm_types.specs.Syntax.{Plain, Instructions, Then, ModuleForm}
use Rattle.wasm_types.specs.declared.instr.Simple.TheVariants.{Nop}
use Rattle.wasm_model.specs.Frames.{settled_code}
use Rattle.wasm_model.specs.Links.{IsNew}
use Rattle.wasm_model.specs.Machines.{Conf, Ends, ProgramForm, turn}
use Rattle.wasm_model.specs.Runs.{MachineForm, TakenAs, told_end}
use Rattle.wasm_model.specs.declared.ends.MachineEnd.{MachineEnd}
use Rattle.wasm_model.specs.declared.ends.End.{End}
use Rattle.host_step.specs.HostState.{HostState}
use Rattle.host_imports.specs.Imports.{host_finds}
use Rattle.host_step.specs.Starts.{state_in}
use Rattle.sem_scripts.specs.MoreTurns.{Grows, output_of}
use Rattle.sem_scripts.specs.ScriptRun.{Ending, Setting, setting_in}
use Rattle.agreement.specs.Modules.TableMeaning.{table_meaning}
use Rattle.agreement.specs.Modules.Over.{IsOver}

-- what is added where a place is passed, by the code of the place
abbrev pub Probe : Type 0
Probe = Instructions → List Action

abbrev pub no_probe : Probe
no_probe code = []

-- the code that comes next
abbrev pub probed_at : Probe → Instructions → List Action → List Action
probed_at probe (Then (Plain Nop) code) output = output ++ probe (Then (Plain Nop) code)
probed_at probe _ output = output

-- n steps over a host of the table with a probe: from where so much was put out, to where it is so much. Constants take no step, so the code that
-- comes next is what is after them.
abbrev pub ProbedSteps : Probe → ProgramForm → ℕ → Conf → HostState → List Action → Conf → HostState → List Action → Type 0
ProbedSteps probe m zero c s output c' s' output' = (c' ≡ c) × (s' ≡ s) × (output' ≡ output)
ProbedSteps probe m (suc n) c s output c' s' output' =
    (c1 : Conf) × (s1 : HostState) × (added : List Action) × TakenAs table_meaning (turn m c) s c.memory added c1 s1
    × ProbedSteps probe m n c1 s1 (probed_at probe (settled_code c.frame.code) output ++ added) c' s' output'

-- a run of so many steps with a probe
pub record ProbedRun (probe : Probe) (m : ModuleForm) (job : JobForm) (input : Source) (outside : Environment) (steps : ℕ) (a : MachineForm) (c : Conf)
    (s : HostState) (output : List Action) : Type 0 where
  pub is_new : IsNew host_finds m a
  pub taken : ProbedSteps probe a.program steps a.conf (state_in job input outside) [] c s output

-- A module passes its places as something is done that has the probe too, in a setting and within so many turns. What a run has put out with the
-- probe is put out by some time; where the run ends that is all; and what is put out within some turns a run has put out once it has taken enough
-- steps.
pub record Passes (done : Probe → Setting → ℕ → Ending) (m : ModuleForm) : Type 0 where
  pub so_far : (probe : Probe) (job : JobForm) (input : Source) (outside : Environment) (steps : ℕ) (a : MachineForm) (c : Conf) (s : HostState)
      (output : List Action)
      → ProbedRun probe m job input outside steps a c s output → (turns : ℕ) × Grows output (output_of (done probe (setting_in job input outside) turns))
  pub ended : (probe : Probe) (job : JobForm) (input : Source) (outside : Environment) (steps : ℕ) (a : MachineForm) (c : Conf) (s : HostState)
      (output : List Action)
      → ProbedRun probe m job input outside steps a c s output → (e : End) (t : MachineEnd) → turn a.program c ≡ Ends e → told_end e ≡ Some t
      → (turns : ℕ) × IsOver (done probe (setting_in job input outside) turns) × (output_of (done probe (setting_in job input outside) turns) ≡ output)
  pub in_time : (probe : Probe) (job : JobForm) (input : Source) (outside : Environment) (turns : ℕ)
      → (enough : ℕ) × ((steps : ℕ) (a : MachineForm) (c : Conf) (s : HostState) (output : List Action) → enough ≤ steps
      → ProbedRun probe m job input outside steps a c s output → Grows (output_of (done probe (setting_in job input outside) turns)) output)
