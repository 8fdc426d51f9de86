-- Which names the command line has assigned to in a run, by `-v` or by an operand: the host has each such assignment pending until the module makes it.
use Rattle.std.specs.Prelude.{ℕ, zero, suc, ◌≡◌, ◌⊎◌, List, Some, slice_get}
use Rattle.sem_primitives.specs.Assignments.{assignment_of, declared}
use Rattle.sem_primitives.specs.InputParts.{operand_text}
use Rattle.sem_primitives.specs.Jobs.{JobForm, Environment}
use Rattle.sem_primitives.specs.declared.constants.NameKind.TheVariants.{Scalar}
use Rattle.awk_values.specs.declared.value.Value.{Value}
use Rattle.world_core.specs.WorldState.{Action, Source}
use Rattle.wasm_types.specs.Syntax.{ModuleForm}
use Rattle.wasm_model.specs.Machines.{Conf, ProgramForm}
use Rattle.wasm_model.specs.Runs.{MachineForm, Steps}
use Rattle.host_step.specs.HostState.{HostState}
use Rattle.host_step.specs.Starts.{state_in}
use Rattle.agreement.specs.Modules.TableMeaning.{table_meaning}
use Rattle.agreement.specs.Places.NoLeaks.{Reached}

-- so it was of the host somewhere on the way of a run, at its beginning and its end too
abbrev pub Somewhere : (P : HostState → Type 0) (m : ProgramForm) (n : ℕ) (c : Conf) (s : HostState) (output : List Action) (c1 : Conf)
    (s1 : HostState) → Steps table_meaning m n c s output c1 s1 → Type 0
Somewhere P m zero c s output c1 s1 way = P s
Somewhere P m (suc n) c s output c1 s1 way = P s ⊎ Somewhere P m n way.0 way.1 way.3 c1 s1 way.5

-- an assignment to the i-th name of the script is to be made now
abbrev pub IsPending : ℕ → HostState → Type 0
IsPending i s = (v : Value) × (s.shared.inner.pending ≡ Some (i, v))

abbrev pub IsAssigned : {m : ModuleForm} {job : JobForm} {input : Source} {outside : Environment} {a : MachineForm} {c : Conf} {s : HostState}
    → Reached m job input outside a c s → ℕ → Type 0
IsAssigned {job = job} {input = input} {outside = outside} {a = a} {c = c} {s = s} reached i =
    Somewhere (IsPending i) a.program reached.steps a.conf (state_in job input outside) reached.output c s reached.taken

-- A word of the command line assigns to the i-th name, of those that the module has announced so far: a `-v` of the job, or an element that ARGV has now.

abbrev pub IsOption : JobForm → List ℕ → Type 0
IsOption job name = (n : ℕ) × (text : List ℕ) × (slice_get job.assigns n ≡ Some (name, text))

abbrev pub IsOperand : List ℕ → HostState → Type 0
IsOperand name s = (n : ℕ) × (text : List ℕ) × (assignment_of (operand_text n s.shared.inner) ≡ Some (name, text))

abbrev pub IsWord : JobForm → ℕ → HostState → Type 0
IsWord job i s = (name : List ℕ) × (declared 0 name s.shared.inner.names ≡ Some (i, Scalar)) × (IsOption job name ⊎ IsOperand name s)

-- so a word did somewhere on the way
abbrev pub HasWord : {m : ModuleForm} {job : JobForm} {input : Source} {outside : Environment} {a : MachineForm} {c : Conf} {s : HostState}
    → Reached m job input outside a c s → ℕ → Type 0
HasWord {job = job} {input = input} {outside = outside} {a = a} {c = c} {s = s} reached i =
    Somewhere (IsWord job i) a.program reached.steps a.conf (state_in job input outside) reached.output c s reached.taken
