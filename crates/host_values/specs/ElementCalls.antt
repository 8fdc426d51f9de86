-- What a call is on the host's tables: a step, in every state that they show.
use Rattle.std.specs.Prelude.{◌≡◌, ◌<◌, ◌^◌, ℕ, pos, List, [], Option, Some, None, Result, Ok, Err}
use Rattle.std.specs.Ordering.{int_cmp}
use Rattle.std.specs.FinMap as map
use Rattle.std.specs.FinMap.{FinMap}
use Rattle.awk_values.specs.declared.fault.Fault.{Fault}
use Rattle.wasm_model.specs.declared.host.HostAnswer.{HostAnswer}
use Rattle.wasm_store.specs.declared.word.Word.{Word}
use Rattle.wasm_store.specs.declared.word.Word.TheVariants.{I32}
use Rattle.host_step.specs.HostState.{HostState}
use Rattle.host_step.specs.HostStep.{StepOf}
use Rattle.host_step.specs.Outcomes.{CanStep, IsOutcome}
use Rattle.host_imports.specs.declared.import.Import.{Import}
use Rattle.host_values.specs.Evaluations.{Values}
use Rattle.host_step.specs.declared.refusal.Refusal.{Refusal}
use Rattle.host_step.specs.declared.refusal.Refusal.TheVariants as why
use Rattle.host_values.specs.Forms.{Arrays, HostForm, Iterators, Stands}

-- from every state that the tables show before, there is a step to one that they show after
abbrev pub Leads : Import → HostForm → List Word → List ℕ → HostAnswer → HostForm → Type 0
Leads i before words memory a after = (s : HostState) → Stands before s → (s' : HostState) × (Stands after s') × (StepOf i s words memory a s' [])

-- with a fault that is kept
abbrev pub keeping : Fault → HostForm → HostForm
keeping f form = record form { fault = Some f }

-- A call on the tables. After a fault they are as the call leaves them. Where memory was wanting, there is a step that the call could have been.
abbrev pub IsTableCall : Import → HostForm → List Word → List ℕ → Result (Option Word) Refusal → HostForm → Type 0
IsTableCall i before words memory r after =
    IsOutcome i (Leads i before words memory) (λ left. (s : HostState) → Stands before s → CanStep i s words memory) keeping r after

-- what is new gets a number that is free
abbrev pub IsNumbered : {A : Type 0} → FinMap int_cmp A → A → Result (Option Word) Refusal → FinMap int_cmp A → Type 0
IsNumbered before x (Ok w) after = (q : ℕ) × (q < 2 ^ 31) × (map.get before (pos q) ≡ None) × (w ≡ Some (I32 q)) × (after ≡ map.insert before (pos q) x)
IsNumbered before x (Err why.NoMemory) after = after ≡ before
IsNumbered before x (Err (why.Trap k)) after = ⊥
IsNumbered before x (Err (why.Fault f)) after = ⊥

-- it is put, and that is answered
abbrev pub IsPut : Result (Option Word) Refusal → Arrays → Arrays → Type 0
IsPut (Ok w) wanted after = (w ≡ Some (I32 0)) × (after ≡ wanted)
IsPut (Err why.NoMemory) wanted after = Unit {0}
IsPut (Err (why.Trap k)) wanted after = ⊥
IsPut (Err (why.Fault f)) wanted after = ⊥

-- forms with these tables

abbrev pub with_arrays : Values → Arrays → HostForm → HostForm
with_arrays values arrays f = record f { values = values; arrays = arrays }

abbrev pub with_iterators : Values → Iterators → HostForm → HostForm
with_iterators values iterators f = record f { values = values; iterators = iterators }

abbrev pub with_both : Arrays → Iterators → HostForm → HostForm
with_both arrays iterators f = record f { arrays = arrays; iterators = iterators }
