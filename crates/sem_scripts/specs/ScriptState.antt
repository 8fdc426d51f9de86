-- The state of a script as it runs, and what it does: a function from a state to a state with an answer, or to a state with the reason why it stops.
use Rattle.std.specs.Prelude.{ℕ, zero, suc, Bool, true, false, List, get_or, set, Result, Ok, Err}
use Rattle.awk_values.specs.declared.fault.Fault.{Fault}
use Rattle.awk_values.specs.declared.value.Value.{Value}
use Rattle.awk_values.specs.declared.value.Value.TheVariants.{Uninit}
use Rattle.sem_primitives.specs.Numbers.{Number}
use Rattle.sem_primitives.specs.SharedState.{Shared, HostResult, shared_after}
use Rattle.sem_primitives.specs.Carried.{carried_out}
use Rattle.sem_primitives.specs.Sorts.{Row, InAnswer, OrFault}
use Rattle.sem_primitives.specs.Table.{arguments_of, answer_of, can_fault, meaning, listed_answer, listed_meaning}
use Rattle.sem_primitives.specs.declared.table.Primitive.{Primitive}
use Rattle.sem_primitives.specs.declared.table.Listed.{Listed}

-- what a parameter of a call stands for: a value of its own, or an array by its number
pub data Local : Type 0 where
  Scalar : Value → Local
  Array : ℕ → Local

-- what is a call's own
pub record CallFrame : Type 0 where
  -- by the numbers of the parameters
  pub locals : List Local
  -- how many more calls of the script's functions may be nested
  pub calls_left : ℕ

pub record State : Type 0 where
  -- turns left: a turn is a loop's test, a key of a loop over an array, a call, a record, or an assignment of the command line
  pub turns : ℕ
  -- by the numbers of the script's names
  pub globals : List Value
  -- which ranges are open, by their numbers
  pub ranges : ℕ → Bool
  pub status : Number
  pub own : CallFrame
  -- what the host has too
  pub shared : Shared

pub data Stop : Type 0 where
  Faulted : Fault → Stop
  OutOfTurns : Stop
  -- a call of a function while no more may be nested
  TooDeep : Stop
  -- `next`, `exit` and `return` leave what is being done, also in the middle of an expression
  Nexted Exited : Stop
  Returned : Value → Stop

pub data Outcome (A : Type 0) : Type 0 where
  Gives : A → State → Outcome A
  Stops : Stop → State → Outcome A

abbrev pub Execution : Type 0 → Type 0
Execution A = State → Outcome A

abbrev pub go_on : {A B : Type 0} → Outcome A → (A → Execution B) → Outcome B
go_on (Gives a state) f = f a state
go_on (Stops why state) f = Stops why state

infixr 1 ◌>>=◌
abbrev pub ◌>>=◌ : {A B : Type 0} → Execution A → (A → Execution B) → Execution B
◌>>=◌ m f = λ state. go_on (m state) f

infixr 1 ◌>>◌
abbrev pub ◌>>◌ : {A B : Type 0} → Execution A → Execution B → Execution B
◌>>◌ m k = λ state. go_on (m state) (λ a. k)

abbrev pub give : {A : Type 0} → A → Execution A
give a = λ state. Gives a state

abbrev pub nothing : Execution (Unit {0})
nothing = λ state. Gives tt state

abbrev pub stop : {A : Type 0} → Stop → Execution A
stop why = λ state. Stops why state

-- something that the state tells
abbrev pub look : {A : Type 0} → (State → A) → Execution A
look f = λ state. Gives (f state) state

abbrev pub change : (State → State) → Execution (Unit {0})
change f = λ state. Gives tt (f state)

-- an answer, or a fault
abbrev pub settled : {A : Type 0} → Result A Fault → Execution A
settled (Ok a) = give a
settled (Err fault) = stop (Faulted fault)

abbrev pub or_fault : {A : Type 0} → (b : Bool) → OrFault b A → Result A Fault
or_fault true a = a
or_fault false a = Ok a

-- what the host does for a script
abbrev pub perform : {A : Type 0} → (b : Bool) → (Shared → HostResult (OrFault b A)) → Execution A
perform b f = λ state. settled (or_fault b (f state.shared).answer) (record state { shared = shared_after state.shared (f state.shared) })

-- a row of the table
abbrev pub call : (p : Primitive) → Row (arguments_of p) → Execution (InAnswer (answer_of p))
call p row = perform (can_fault p) (meaning p row)

abbrev pub call_listed : (l : Listed) → List Value → Execution (InAnswer (listed_answer l))
call_listed l values = perform true (listed_meaning l values)

abbrev pub spent : ℕ → State → Outcome (Unit {0})
spent zero state = Stops OutOfTurns state
spent (suc n) state = Gives tt (record state { turns = n })

-- takes a turn
abbrev pub spend : Execution (Unit {0})
spend = λ state. spent state.turns state

-- takes so many
unfoldable pub spend_all : ℕ → Execution (Unit {0})
spend_all zero = nothing
spend_all (suc n) = spend >> spend_all n

-- a call in which the host may carry out assignments of the command line: each of them costs a turn
abbrev pub asks : (p : Primitive) → Row (arguments_of p) → Execution (InAnswer (answer_of p))
asks p row = look (λ state. carried_out p state.shared) >>= λ n. spend_all n >> call p row

-- Names, by their numbers.

abbrev pub value_in_local : Local → Value
value_in_local (Scalar v) = v
value_in_local (Array n) = Uninit

abbrev pub array_in_local : Local → ℕ
array_in_local (Scalar v) = 0
array_in_local (Array n) = n

abbrev pub global_value : ℕ → State → Value
global_value i state = get_or state.globals i Uninit

abbrev pub local_value : ℕ → State → Value
local_value i state = value_in_local (get_or state.own.locals i (Scalar Uninit))

abbrev pub local_array : ℕ → State → ℕ
local_array i state = array_in_local (get_or state.own.locals i (Scalar Uninit))

abbrev pub with_global : ℕ → Value → State → State
with_global i v state = record state { globals = set state.globals i v }

abbrev pub with_local : ℕ → Value → State → State
with_local i v state = record state { own = record state.own { locals = set state.own.locals i (Scalar v) } }

-- a function has another value at a number
abbrev pub changed : (ℕ → Bool) → ℕ → Bool → ℕ → Bool
changed f zero b zero = b
changed f zero b (suc j) = f (suc j)
changed f (suc i) b zero = f zero
changed f (suc i) b (suc j) = changed (λ k. f (suc k)) i b j

abbrev pub with_range : ℕ → Bool → State → State
with_range i b state = record state { ranges = changed state.ranges i b }
