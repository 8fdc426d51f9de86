-- One step of the host: what an import does, and what it answers.
use Rattle.std.specs.Prelude.{ℕ, ◌-◌, ◌≡◌, nat_le, Bool, true, false, ◌&&◌, not, cond, List, [], ◌∷◌, ◌++◌, length, take, drop, is_some, Option, Some, None, Result, Ok, Err}
use Rattle.awk_values.specs.declared.fault.Fault.{Fault}
use Rattle.awk_values.specs.declared.value.Value.{Value as AnyValue}
use Rattle.sem_primitives.specs.InTurn.{in_turn, values_taken, listed_in_turn}
use Rattle.sem_primitives.specs.SharedState.{HostResult, gives, shared_after}
use Rattle.sem_primitives.specs.Sorts.{InAnswer, OrFault, Row}
use Rattle.sem_primitives.specs.Table.{meaning, listed_answer, listed_meaning}
use Rattle.sem_primitives.specs.Table as table
use Rattle.sem_primitives.specs.declared.sorts.Answer.{Answer}
use Rattle.sem_primitives.specs.declared.table.Listed.{Listed}
use Rattle.sem_primitives.specs.declared.table.Listed.TheVariants as listed
use Rattle.wasm_model.specs.declared.host.HostAnswer.{HostAnswer}
use Rattle.wasm_model.specs.declared.host.HostAnswer.TheVariants as told
use Rattle.wasm_store.specs.declared.trap.TrapKind.{TrapKind}
use Rattle.wasm_store.specs.declared.trap.TrapKind.TheVariants.{BadArgument}
use Rattle.wasm_store.specs.declared.word.Word.{Word}
use Rattle.world_core.specs.WorldState.{Action}
use Rattle.host_imports.specs.Imports.{import_answer, import_arguments, import_at, lets_go, spends}
use Rattle.host_step.specs.HostState.{HostState, Names}
use Rattle.host_step.specs.Arguments.{and_then, decode}
use Rattle.host_step.specs.Answers.{FreeFor, encode, refusal}
use Rattle.host_imports.specs.declared.import.VariadicImport.TheVariants.{Sprintf, Print, Printf}
use Rattle.host_imports.specs.declared.import.Import.{Import}
use Rattle.host_imports.specs.declared.import.Import.TheVariants.{OfPrimitive, Variadic, Arg, Drop, IterFree, FreeArray}

-- What an import does with its arguments: to what a script and its host share, and to the argument list.

pub record Acts (A : Type 0) : Type 0 where
  pub does : HostResult (Result A Fault)
  pub arguments : List AnyValue

-- a call that is out of turn is unfit
abbrev pub where_fit : {A : Type 0} → Bool → A → Result A TrapKind
where_fit true x = Ok x
where_fit false x = Err BadArgument

abbrev pub or_fault : {A : Type 0} → (faults : Bool) → OrFault faults A → Result A Fault
or_fault true x = x
or_fault false x = Ok x

-- a primitive leaves the argument list as it is
abbrev pub primitive_acts : {A : Type 0} → List AnyValue → (faults : Bool) → HostResult (OrFault faults A) → Acts A
primitive_acts arguments faults d = record { does = record { added = d.added; inner = d.inner; answer = or_fault faults d.answer }; arguments = arguments }

-- the last n values of a list, and those before them
abbrev pub last_of : ℕ → List AnyValue → List AnyValue
last_of n values = drop (length values - n) values

abbrev pub before_last_of : ℕ → List AnyValue → List AnyValue
before_last_of n values = take (length values - n) values

-- the last values of the argument list are taken, also where a fault is kept; too few are unfit
abbrev pub listed_acts : (l : Listed) → ℕ → HostState → Result (Acts (InAnswer (listed_answer l))) TrapKind
listed_acts l n s = where_fit (nat_le n (length s.arguments) && listed_in_turn l (last_of n s.arguments))
    (record { does = listed_meaning l (last_of n s.arguments) s.shared; arguments = before_last_of n s.arguments })

abbrev pub only_answers : HostState → List AnyValue → Acts (Unit {0})
only_answers s arguments = record { does = gives s.shared (Ok tt); arguments = arguments }

-- ARGV and ENVIRON are not freed
abbrev pub is_freed : ℕ → Bool
is_freed a = nat_le 2 a

abbrev pub acts : (i : Import) → Row (import_arguments i) → HostState → Result (Acts (InAnswer (import_answer i))) TrapKind
acts (OfPrimitive p) row s = where_fit (in_turn p row s.shared) (primitive_acts s.arguments (table.can_fault p) (meaning p row s.shared))
acts (Variadic Sprintf) row s = listed_acts listed.Sprintf (values_taken listed.Sprintf row.0) s
acts (Variadic Print) row s = listed_acts (listed.Print row.1.0) (values_taken (listed.Print row.1.0) row.0) s
acts (Variadic Printf) row s = listed_acts (listed.Printf row.1.0) (values_taken (listed.Printf row.1.0) row.0) s
acts Arg row s = Ok (only_answers s (s.arguments ++ row.0 ∷ []))
acts Drop row s = Ok (only_answers s s.arguments)
acts IterFree row s = Ok (only_answers s s.arguments)
acts FreeArray row s = where_fit (is_freed row.0) (only_answers s s.arguments)

-- What a call comes to.

pub data Comes (A : Type 0) : Type 0 where
  -- it traps
  Traps : TrapKind → Comes A
  -- a fault is kept: it only answers so
  Refuses : Comes A
  -- it is carried out: with the tables without what it spends
  Goes : Names → Acts A → Comes A

abbrev pub come : {A : Type 0} → Result (Names × Acts A) TrapKind → Comes A
come (Ok x) = Goes x.0 x.1
come (Err kind) = Traps kind

abbrev pub carried : (i : Import) → List Word → List ℕ → HostState → Result (Names × Acts (InAnswer (import_answer i))) TrapKind
carried i words memory s = and_then (decode (spends i) memory s.names (import_arguments i) words) (λ x. and_then (acts i x.0 s) (λ d. Ok (x.1, d)))

-- after a fault every import but those that let something go only refuses, whatever its words are
abbrev pub refuses : Import → Option Fault → Bool
refuses i kept = is_some kept && not (lets_go i)

abbrev pub comes : (i : Import) → List Word → List ℕ → HostState → Comes (InAnswer (import_answer i))
comes i words memory s = cond (refuses i s.fault) Refuses (come (carried i words memory s))

-- What is left after it.

-- a call that is done: its result, the state after it, and the output that it added
pub record Given : Type 0 where
  pub word : Option Word
  pub after : HostState
  pub added : List Action

-- it answers: what is new gets the number q
abbrev pub answered : ℕ → (a : Answer) → HostState → Names → Acts (InAnswer a) → InAnswer a → Given
answered q a s left d x = record {
  word = (encode q left a x).0;
  after = record { names = (encode q left a x).1; shared = shared_after s.shared d.does; arguments = d.arguments; fault = s.fault };
  added = d.does.added;
}

-- it keeps a fault: its arguments are spent
abbrev pub faulted : (a : Answer) → HostState → Names → Acts (InAnswer a) → Fault → Given
faulted a s left d f = record {
  word = refusal a;
  after = record { names = left; shared = shared_after s.shared d.does; arguments = d.arguments; fault = Some f };
  added = d.does.added;
}

abbrev pub refused : Answer → HostState → Given
refused a s = record { word = refusal a; after = s; added = [] }

-- The step. What is new may get any number that is free once the arguments are spent; none is asked for where nothing is new.

-- a call is done so
pub record IsGiven (g : Given) (answer : HostAnswer) (after : HostState) (output : List Action) : Type 0 where
  pub word : answer ≡ told.Done g.word
  pub state : after ≡ g.after
  pub added : output ≡ g.added

-- a call traps: it spends nothing and changes nothing
pub record IsTrap (kind : TrapKind) (before : HostState) (answer : HostAnswer) (after : HostState) (output : List Action) : Type 0 where
  pub trap : answer ≡ told.Trap kind
  pub state : after ≡ before
  pub added : output ≡ []

abbrev pub Settles : (a : Answer) → HostState → Names → Acts (InAnswer a) → Result (InAnswer a) Fault → HostAnswer → HostState → List Action → Type 0
Settles a before left d (Ok x) answer after output = (q : ℕ) × FreeFor left a x q × IsGiven (answered q a before left d x) answer after output
Settles a before left d (Err f) answer after output = IsGiven (faulted a before left d f) answer after output

abbrev pub StepBy : (a : Answer) → HostState → Comes (InAnswer a) → HostAnswer → HostState → List Action → Type 0
StepBy a before (Traps kind) answer after output = IsTrap kind before answer after output
StepBy a before Refuses answer after output = IsGiven (refused a before) answer after output
StepBy a before (Goes left d) answer after output = Settles a before left d d.does.answer answer after output

-- an import, with these words over this memory, answers so, and leaves this state and this further output
abbrev pub StepOf : Import → HostState → List Word → List ℕ → HostAnswer → HostState → List Action → Type 0
StepOf i before words memory answer after output = StepBy (import_answer i) before (comes i words memory before) answer after output

abbrev pub StepIf : Option Import → HostState → List Word → List ℕ → HostAnswer → HostState → List Action → Type 0
StepIf None before words memory answer after output = IsTrap BadArgument before answer after output
StepIf (Some i) before words memory answer after output = StepOf i before words memory answer after output

-- the same by the import's number
abbrev pub HostStep : ℕ → HostState → List Word → List ℕ → HostAnswer → HostState → List Action → Type 0
HostStep n before words memory answer after output = StepIf (import_at n) before words memory answer after output
