-- The step as a function, where what is new gets the number q.
use Rattle.std.specs.Prelude.{ℕ, List, Result, Ok, Err}
use Rattle.awk_values.specs.declared.fault.Fault.{Fault}
use Rattle.sem_primitives.specs.Sorts.{InAnswer}
use Rattle.sem_primitives.specs.declared.sorts.Answer.{Answer}
use Rattle.wasm_store.specs.declared.trap.TrapKind.{TrapKind}
use Rattle.wasm_store.specs.declared.word.Word.{Word}
use Rattle.host_imports.specs.Imports.{import_answer}
use Rattle.host_step.specs.HostState.{HostState, Names}
use Rattle.host_step.specs.HostStep.{Acts, Comes, Traps, Refuses, Goes, comes, Given, answered, faulted, refused}
use Rattle.host_imports.specs.declared.import.Import.{Import}

abbrev pub settled : ℕ → (a : Answer) → HostState → Names → Acts (InAnswer a) → Result (InAnswer a) Fault → Given
settled q a s left d (Ok x) = answered q a s left d x
settled q a s left d (Err f) = faulted a s left d f

abbrev pub step_by : ℕ → (a : Answer) → HostState → Comes (InAnswer a) → Result Given TrapKind
step_by q a s (Traps kind) = Err kind
step_by q a s Refuses = Ok (refused a s)
step_by q a s (Goes left d) = Ok (settled q a s left d d.does.answer)

abbrev pub step : ℕ → Import → List Word → List ℕ → HostState → Result Given TrapKind
step q i words memory s = step_by q (import_answer i) s (comes i words memory s)
