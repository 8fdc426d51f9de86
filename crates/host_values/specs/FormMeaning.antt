-- What the calls of a host mean that is told by its tables: a relation between what they are before a call and after it.
use Rattle.std.specs.Prelude.{ℕ, ◌≡◌, ◌≢◌, List, [], ◌++◌, Option}
use Rattle.wasm_model.specs.Hosts.{Typed}
use Rattle.wasm_model.specs.declared.host.HostAnswer.{HostAnswer}
use Rattle.wasm_model.specs.declared.host.HostAnswer.TheVariants as told
use Rattle.wasm_store.specs.Memories.{MemoryForm}
use Rattle.wasm_store.specs.declared.word.Word.{Word}
use Rattle.world_core.specs.WorldState.{Action, Entry, Outside, after as outside_after}
use Rattle.host_step.specs.HostState.{HostState}
use Rattle.host_step.specs.HostStep.{StepIf}
use Rattle.host_imports.specs.Imports.{import_at, type_if_there}
use Rattle.host_imports.specs.declared.import.Import.{Import}
use Rattle.host_values.specs.Forms.{HostForm}
use Rattle.host_values.specs.Findings.{IsFound, form_finding}
use Rattle.host_values.specs.Shown.{Shown, form_with_output}

-- a state that is shown after a call, to which there is such a step
pub record StepShown (import : Option Import) (s : HostState) (words : List Word) (memory : List ℕ) (a : HostAnswer) (after-call : HostForm)
    (output : List Action) : Type 0 where
  pub state : HostState
  pub shown : Shown after-call state
  pub step : StepIf import s words memory a state output

-- A state that is shown after a call, to which there is such a step, where these are found later: nothing else is left of the list.
pub record StepFinds (import : Option Import) (s : HostState) (words : List Word) (memory : List ℕ) (a : HostAnswer) (after-call : HostForm)
    (output : List Action) (later : List Entry) (outside : Outside) (so_far : List Action) : Type 0 where
  pub rest : List Entry
  pub left : IsFound after-call.fault [] later rest
  pub to : StepShown import s words memory a (form_finding rest (outside_after output outside) (so_far ++ output) after-call) output

-- What a call finds in an environment that others change too, whatever is found after it: from every state that is shown then there is a step with this output.
pub record FindsSo (import : Option Import) (before : HostForm) (words : List Word) (memory : List ℕ) (a : HostAnswer) (after-call : HostForm)
    (output : List Action) : Type 0 where
  pub found : List Entry
  pub leads : (finds later : List Entry) → IsFound before.fault found later finds → (outside : Outside) (so_far : List Action) (s : HostState)
      → Shown (form_finding finds outside so_far before) s → StepFinds import s words memory a after-call output later outside so_far

-- A call that wants no memory, with this output. From every state that is shown before it, a step leads to one that is shown after it, whatever was put out
-- before, where the world tells what it holds; and in every world so it does where something is found.
pub record FormCalled (tells : Type 0) (import : Option Import) (before : HostForm) (words : List Word) (memory : List ℕ) (a : HostAnswer)
    (after-call : HostForm) (output : List Action) : Type 0 where
  pub typed : Typed (type_if_there import) a
  pub step : tells → (so_far : List Action) (s : HostState) → Shown (form_with_output so_far before) s
      → StepShown import s words memory a (form_with_output (so_far ++ output) after-call) output
  pub finds : FindsSo import before words memory a after-call output

-- a step by another answer, whose output begins so
pub record OtherStep (import : Option Import) (s : HostState) (words : List Word) (memory : List ℕ) (output : List Action) : Type 0 where
  pub answer : HostAnswer
  pub answered : answer ≢ told.NoMemory
  pub state : HostState
  pub rest : List Action
  pub step : StepIf import s words memory answer state (output ++ rest)

-- from every state that is shown there is one
abbrev pub Begins : Option Import → HostForm → List Word → List ℕ → List Action → Type 0
Begins import before words memory output = (so_far : List Action) (s : HostState) → Shown (form_with_output so_far before) s
    → OtherStep import s words memory output

-- Memory was wanting. Where the world tells what it holds, it holds what was put out, and so the output of another answer begins. Of the tables nothing is
-- told.
pub record FormWanted (tells : Type 0) (import : Option Import) (before : HostForm) (words : List Word) (memory : List ℕ) (after-call : HostForm)
    (output : List Action) : Type 0 where
  pub outside : tells → (so_far : List Action) (s : HostState) → Shown (form_with_output so_far before) s
      → after-call.shared.outside ≡ outside_after output s.shared.outside
  pub begins : tells → Begins import before words memory output

-- What stands for the answers that a call would have given with more memory: which one it is depends on the state, so only the output is told.
pub record Instead (tells : Type 0) (import : Option Import) (before : HostForm) (words : List Word) (memory : List ℕ) (a : HostAnswer)
    (output : List Action) : Type 0 where
  pub typed : Typed (type_if_there import) a
  pub other : a ≢ told.NoMemory
  pub begins : tells → Begins import before words memory output

-- a host by its tables; or one of which nothing is told, as no host is: it stands after such an answer, and no call comes after it
pub data FormState : Type 0 where
  Told : HostForm → FormState
  Untold : FormState

abbrev pub FormMeans : (tells : Type 0) → Option Import → HostForm → List Word → List ℕ → HostAnswer → HostForm → List Action → Type 0
FormMeans tells import before words memory told.NoMemory after-call output = FormWanted tells import before words memory after-call output
FormMeans tells import before words memory a after-call output = FormCalled tells import before words memory a after-call output

-- what the calls of a host mean, by the import's number; no import writes to memory
abbrev pub form_meaning : (tells : Type 0) → FormState → ℕ → List Word → MemoryForm → HostAnswer → FormState → MemoryForm → List Action → Type 0
form_meaning tells (Told before) n words mem a (Told after-call) mem' output = (mem' ≡ mem)
    × FormMeans tells (import_at n) before words mem.bytes a after-call output
form_meaning tells (Told before) n words mem a Untold mem' output = (mem' ≡ mem) × Instead tells (import_at n) before words mem.bytes a output
form_meaning tells Untold n words mem a after-call mem' output = ⊥
