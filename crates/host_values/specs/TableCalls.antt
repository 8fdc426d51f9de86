-- A call on tables, as a machine is told of it.
use Rattle.std.specs.Prelude.{◌≡◌, ℕ, List, Option, Some, Result, Ok, Err}
use Rattle.wasm_model.specs.Hosts.{type_if}
use Rattle.wasm_model.specs.declared.host.HostAnswer.{HostAnswer}
use Rattle.wasm_model.specs.declared.host.HostAnswer.TheVariants as told
use Rattle.wasm_store.specs.declared.word.Word.{Word}
use Rattle.host_step.specs.Answers.{refusal}
use Rattle.host_imports.specs.Imports.{import_answer, result_of}
use Rattle.host_imports.specs.declared.import.Import.{Import}
use Rattle.host_step.specs.declared.refusal.Refusal.{Refusal}
use Rattle.host_step.specs.declared.refusal.Refusal.TheVariants as why
use Rattle.host_values.specs.ElementCalls.{IsTableCall}
use Rattle.host_values.specs.Forms.{HostForm}
use Rattle.host_values.specs.Findings.{View, viewed}
use Rattle.host_values.specs.Shown.{SharesBy}

-- what is answered: a fault's answer is the import's refusal
abbrev pub answer_of_call : Import → Result (Option Word) Refusal → HostAnswer
answer_of_call i (Ok w) = told.Done w
answer_of_call i (Err (why.Fault f)) = told.Done (refusal (import_answer i))
answer_of_call i (Err (why.Trap k)) = told.Trap k
answer_of_call i (Err why.NoMemory) = told.NoMemory

-- the tables once a fault is kept
abbrev pub left_by_call : Result (Option Word) Refusal → HostForm → HostForm
left_by_call (Err (why.Fault f)) after-call = record after-call { fault = Some f }
left_by_call r after-call = after-call

-- an answer is of its import's type
abbrev pub Fits : Import → Result (Option Word) Refusal → Type 0
Fits i (Ok w) = type_if w ≡ result_of (import_answer i)
Fits i r = Unit {0}

-- whatever a host shows of what is not its own, and whichever form of the tables before is taken, the call is one on it, to one that is as good as the tables after
abbrev pub TableCalls : Import → HostForm → List Word → List ℕ → Result (Option Word) Refusal → HostForm → Type 0
TableCalls i before words memory r after-call = (view : View) (form : HostForm) → SharesBy before.fault form (viewed view before)
    → (form' : HostForm) × SharesBy after-call.fault form' (viewed view after-call) × IsTableCall i form words memory r form'
