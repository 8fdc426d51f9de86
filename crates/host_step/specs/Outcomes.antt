-- What the code of a call comes to, and what that says of the step that the call is.
use Rattle.std.specs.Prelude.{ℕ, ◌≢◌, List, [], Option, Some, Result, Ok, Err}
use Rattle.awk_values.specs.declared.fault.Fault.{Fault}
use Rattle.wasm_model.specs.declared.host.HostAnswer.{HostAnswer}
use Rattle.wasm_model.specs.declared.host.HostAnswer.TheVariants as told
use Rattle.wasm_store.specs.declared.word.Word.{Word}
use Rattle.host_imports.specs.Imports.{import_answer}
use Rattle.host_imports.specs.declared.import.Import.{Import}
use Rattle.host_step.specs.Answers.{refusal}
use Rattle.host_step.specs.HostState.{HostState}
use Rattle.host_step.specs.HostStep.{StepOf}
use Rattle.host_step.specs.declared.refusal.Refusal.{Refusal}
use Rattle.host_step.specs.declared.refusal.Refusal.TheVariants as why

-- A call of an import, over states, over tables that show them, or over tables beside a world. It leads to an answer and to what is left. A fault is kept in
-- what is left, and its answer is the import's refusal. Where memory was wanting, the call could have led on from there.
abbrev pub IsOutcome : {S : Type 0} → Import → (leads : HostAnswer → S → Type 0) → (could : S → Type 0) → (keep : Fault → S → S) → Result (Option Word) Refusal → S → Type 0
IsOutcome i leads could keep (Ok w) left = leads (told.Done w) left
IsOutcome i leads could keep (Err (why.Fault f)) left = leads (told.Done (refusal (import_answer i))) (keep f left)
IsOutcome i leads could keep (Err (why.Trap k)) left = leads (told.Trap k) left
IsOutcome i leads could keep (Err why.NoMemory) left = could left

abbrev pub with_fault : Fault → HostState → HostState
with_fault f s = record s { fault = Some f }

-- there is a step with an answer, which puts nothing out
abbrev pub CanStep : Import → HostState → List Word → List ℕ → Type 0
CanStep i before words memory = (a : HostAnswer) × (a ≢ told.NoMemory) × (left : HostState) × StepOf i before words memory a left []

-- a call from one state to another, which puts nothing out
abbrev pub IsCall : Import → HostState → List Word → List ℕ → Result (Option Word) Refusal → HostState → Type 0
IsCall i before words memory r left = IsOutcome i (λ a s. StepOf i before words memory a s []) (λ s. CanStep i before words memory) with_fault r left
