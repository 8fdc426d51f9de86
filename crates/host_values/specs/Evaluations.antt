-- What a call comes to over the host's map of values: it traps, or it leaves a map of values without what it spends, a state, and an answer or a fault.
use Rattle.std.specs.Prelude.{◌≡◌, ℤ, List, Result, Ok, Err}
use Rattle.std.specs.Ordering.{int_cmp}
use Rattle.std.specs.FinMap as map
use Rattle.std.specs.FinMap.{FinMap}
use Rattle.awk_values.specs.declared.fault.Fault.{Fault}
use Rattle.awk_values.specs.declared.value.Value.{Value as AnyValue}
use Rattle.sem_primitives.specs.Constants.{InConstant}
use Rattle.sem_primitives.specs.declared.sorts.Constant.{Constant}
use Rattle.wasm_store.specs.declared.trap.TrapKind.{TrapKind}
use Rattle.wasm_store.specs.declared.word.Word.{Word}
use Rattle.host_step.specs.Arguments.{constant_front, number_front}
use Rattle.host_step.specs.HostState.{HostState}
use Rattle.host_step.specs.declared.refusal.Refusal.{Refusal}
use Rattle.host_step.specs.declared.refusal.Refusal.TheVariants as refusal
use Rattle.host_values.specs.Fronts.{handle_front, plain_number}
use Rattle.host_values.specs.declared.reply.Evaluated.{Evaluated}
use Rattle.host_values.specs.declared.reply.Reply.{Reply}
use Rattle.host_values.specs.declared.spent.Spent.{Spent}
use Rattle.host_values.specs.declared.spent.Spent.TheVariants.{Nothing, One, Two, Three}

abbrev pub Values : Type 0
Values = FinMap int_cmp AnyValue

-- the host's state but for its tables, and an answer or a fault
abbrev pub Outcome : Type 0
Outcome = HostState × Result Reply Fault

abbrev pub Evaluation : Type 0
Evaluation = Result (Values × Outcome) TrapKind

-- Arguments, from left to right.

-- the first argument, and then what it and the words behind it give
abbrev pub front_then : {A : Type 0} → Result (A × List Word) TrapKind → (A → List Word → Evaluation) → Evaluation
front_then (Ok x) f = f x.0 x.1
front_then (Err k) f = Err k

abbrev pub handle_then : Result (ℤ × AnyValue × List Word) TrapKind → (ℤ → AnyValue → List Word → Evaluation) → Evaluation
handle_then (Ok x) f = f x.0 x.1 x.2
handle_then (Err k) f = Err k

-- a value that is spent: the map goes on without it
abbrev pub value_then : Values → List Word → (AnyValue → Values → List Word → Evaluation) → Evaluation
value_then values words f = handle_then (handle_front values words) (λ h v rest. f v (map.remove values h) rest)

abbrev pub number_then : List Word → (ℤ → List Word → Evaluation) → Evaluation
number_then words f = front_then (plain_number (number_front words)) f

abbrev pub constant_then : (c : Constant) → List Word → (InConstant c → List Word → Evaluation) → Evaluation
constant_then c words f = front_then (constant_front c words) f

-- no word is left, and then what the arguments give
abbrev pub ends_then : Result (Unit {0}) TrapKind → Evaluation → Evaluation
ends_then (Ok u) e = e
ends_then (Err k) e = Err k

-- What the code gives.

-- a map without the handles that are spent
abbrev pub left_by : Spent → Values → Values
left_by Nothing m = m
left_by (One h) m = map.remove m h
left_by (Two a b) m = map.remove (map.remove m a) b
left_by (Three a b c) m = map.remove (map.remove (map.remove m a) b) c

-- it answers, or faults
abbrev pub NoTrap : Evaluation → Type 0
NoTrap (Err k) = ⊥
NoTrap (Ok x) = Unit {0}

-- What was answered, and the state that was left, are what is to be; a trap changes nothing; where memory was wanting, that is no trap.
abbrev pub Evaluates : Values → HostState → Result Evaluated Refusal → HostState → Evaluation → Type 0
Evaluates m before (Ok e) after wanted = wanted ≡ Ok (left_by e.spent m, (after, e.outcome))
Evaluates m before (Err (refusal.Trap k)) after wanted = (wanted ≡ Err k) × (after ≡ before)
Evaluates m before (Err (refusal.Fault f)) after wanted = ⊥
Evaluates m before (Err refusal.NoMemory) after wanted = NoTrap wanted
