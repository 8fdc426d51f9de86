-- What running a module answers: why it is not run, or how its run ended and what became of the world.
use Rattle.std.specs.Prelude.{◌≡◌, ◌≢◌, ◌⊎◌, ℕ, ℤ, pos, unsigned_abs, List, [], Option, Some, None, Err}
use Rattle.std.specs.Int.{int_rem_euclid}
use Rattle.awk_values.specs.declared.fault.Fault.{Fault}
use Rattle.world_core.specs.Traces.{Call, Targets, Trace, actions_of}
use Rattle.world_core.specs.WorldState.{Action, Standard, State}
use Rattle.wasm_types.specs.Syntax.{ModuleForm}
use Rattle.wasm_types.specs.ModuleGrammar.{IsModule}
use Rattle.wasm_types.specs.Typing.{ModuleOk}
use Rattle.module_decoder.specs.Reading.{module_at}
use Rattle.module_validator.specs.Faults.{Refuses as Untypes}
use Rattle.module_validator.specs.declared.valid.InvalidFault.{InvalidFault}
use Rattle.module_validator.specs.declared.valid.InvalidFault.TheVariants as invalid
use Rattle.wasm_model.specs.Links.{IsNew, Refuses as Unlinks}
use Rattle.wasm_model.specs.Machines.{Conf}
use Rattle.wasm_model.specs.Runs.{MachineForm, Ran, told_run}
use Rattle.wasm_model.specs.declared.fault.LinkFault.{LinkFault}
use Rattle.wasm_model.specs.declared.fault.LinkFault.TheVariants as link
use Rattle.wasm_model.specs.declared.ends.RunEnd.{RunEnd as MachineRunEnd}
use Rattle.wasm_model.specs.declared.ends.MachineEnd.{MachineEnd}
use Rattle.wasm_model.specs.declared.ends.MachineEnd.TheVariants as machine
use Rattle.sem_primitives.specs.Jobs.{JobForm}
use Rattle.host_imports.specs.Imports.{host_finds}
use Rattle.host_values.specs.Forms.{HostForm}
use Rattle.host_values.specs.FormMeaning.{Told, form_meaning}
use Rattle.host_values.specs.Findings.{ShownFirst}
use Rattle.agreement.specs.Runs.ToldRuns.{FoundRun, ToldRun, done_output}
use Rattle.run_report.specs.declared.end.Refusal.{Refusal}
use Rattle.run_report.specs.declared.end.Refusal.TheVariants.{Decode, Invalid, Link}
use Rattle.run_report.specs.declared.end.RunEnd.{RunEnd}
use Rattle.run_report.specs.declared.end.RunEnd.TheVariants as run

-- `main`'s result modulo 256
abbrev pub status : ℤ → ℕ
status n = unsigned_abs (int_rem_euclid n (pos 256))

abbrev pub returned : Option Fault → ℤ → RunEnd
returned (Some fault) n = run.Faulted fault
returned None n = run.Ended (status n)

-- what is answered for a machine's end, where this fault is kept
abbrev pub run_end : Option Fault → MachineEnd → RunEnd
run_end kept (machine.Returned n) = returned kept n
run_end kept (machine.Trapped kind) = run.Trapped kind
run_end kept machine.OutOfSteps = run.OutOfSteps
run_end kept machine.Exhausted = run.Exhausted
run_end kept machine.NoMemory = run.NoMemory

-- the module of these bytes, which the typing rules do not allow
pub record IsInvalid (bytes : List ℕ) (fault : InvalidFault) : Type 0 where
  pub whole : ModuleForm
  pub read : IsModule bytes whole
  pub named : fault ≢ invalid.NoMemory
  pub cause : Untypes whole fault
  pub untyped : ModuleOk whole → ⊥

-- why bytes are no typed module
abbrev pub IsRefused : List ℕ → Refusal → Type 0
IsRefused bytes (Decode fault) = (module_at bytes ≡ Err fault) × ((m : ModuleForm) → IsModule bytes m → ⊥)
IsRefused bytes (Invalid fault) = IsInvalid bytes fault
IsRefused bytes _ = ⊥

-- why a typed module does not link
abbrev pub IsUnlinked : ModuleForm → LinkFault → Type 0
IsUnlinked whole cause = (cause ≢ link.NoMemory) × Unlinks host_finds whole cause

-- These calls were made of a world, one after another, and no others. What the world took by them is this output, to whoever knows that the stream 1 is the
-- standard output: no other stream is written to before it is opened.
pub record IsGiven {W : Type 0} (did : W → Call → W → Type 0) (old new : W) (output : List Action) : Type 0 where
  pub calls : List Call
  pub made : Trace did old calls new
  pub are : (targets : Targets) → targets 1 ≡ Standard → actions_of calls targets ≡ output

-- A run of a typed module in a job: from its beginning, over a host that shows the state at the start of the job, to a world that holds what the host
-- left, with an output that was given so. Where the world tells what it holds, this is how the module may end, and its output made what the names hold of what
-- they held. In every world it is how the module may end, with this output, in an environment that others change too, where each opening, read and write finds
-- the next of some list; where memory was wanting, with what was put out before the step that wanted it.
pub record IsRunOf (tells : Type 0) (given : List Action → Type 0) (whole : ModuleForm) (job : JobForm) (steps : ℕ) (before : State) (e : RunEnd) (after : State)
    : Type 0 where
  pub machine : MachineForm
  pub is_new : IsNew host_finds whole machine
  pub start : HostForm
  pub begins : ShownFirst start job (before.readers 0) before.outside
  pub run-end : MachineRunEnd
  pub told : MachineEnd
  pub telling : told_run run-end ≡ Some told
  pub conf : Conf
  pub left : HostForm
  pub output : List Action
  pub gave : given output
  pub ran : Ran (form_meaning tells) machine.program steps machine.conf (Told start) output run-end conf (Told left)
  pub answered : e ≡ run_end left.fault told
  pub outside : after.outside ≡ left.shared.outside
  pub over_table : tells → ToldRun whole job (before.readers 0) before.outside steps told left
  pub there : FoundRun whole job steps told left
      (done_output (form_meaning tells) machine.program steps machine.conf (Told start) output run-end conf (Told left) ran)

-- what it put out; where a step wanted memory, what was put out before that step
abbrev pub run_output : {tells : Type 0} {given : List Action → Type 0} {whole : ModuleForm} {job : JobForm} {steps : ℕ} {before : State} {e : RunEnd}
    {after : State} → IsRunOf tells given whole job steps before e after → List Action
run_output {tells = tells} {steps = steps} r =
    done_output (form_meaning tells) r.machine.program steps r.machine.conf (Told r.start) r.output r.run-end r.conf (Told r.left) r.ran

-- The bytes are a typed module that is run so.
pub record HasRun (tells : Type 0) (given : List Action → Type 0) (bytes : List ℕ) (job : JobForm) (steps : ℕ) (before : State) (e : RunEnd) (after : State)
    : Type 0 where
  pub whole : ModuleForm
  pub read : IsModule bytes whole
  pub typed : ModuleOk whole
  pub run : IsRunOf tells given whole job steps before e after

-- The bytes are a typed module that does not link.
pub record HasNoLink (bytes : List ℕ) (cause : LinkFault) : Type 0 where
  pub whole : ModuleForm
  pub read : IsModule bytes whole
  pub typed : ModuleOk whole
  pub unlinked : IsUnlinked whole cause

-- a world that is as it was, to which nothing was given
abbrev pub IsUntouched : (given : List Action → Type 0) (before after : State) → Type 0
IsUntouched given before after = (after ≡ before) × given []

-- what an answer says of the bytes and of the world
abbrev pub Answers : (tells : Type 0) (given : List Action → Type 0) → List ℕ → JobForm → ℕ → State → RunEnd → State → Type 0
Answers tells given bytes job steps before (run.Refused (Decode cause)) after = IsRefused bytes (Decode cause) × IsUntouched given before after
Answers tells given bytes job steps before (run.Refused (Invalid cause)) after = IsRefused bytes (Invalid cause) × IsUntouched given before after
Answers tells given bytes job steps before (run.Refused (Link cause)) after = HasNoLink bytes cause × IsUntouched given before after
Answers tells given bytes job steps before (run.Refused cause) after = ⊥
Answers tells given bytes job steps before run.NoMemory after = HasRun tells given bytes job steps before run.NoMemory after ⊎ IsUntouched given before after
Answers tells given bytes job steps before e after = HasRun tells given bytes job steps before e after
