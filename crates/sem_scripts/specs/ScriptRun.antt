-- A script's run with a number of turns: how it ends, and its output.
use Rattle.std.specs.Prelude.{ℕ, zero, suc, Bool, true, false, if◌then◌else◌, List, [], ◌∷◌, Option, Some, None, map, replicate, unsigned_abs, pos}
use Rattle.std.specs.Int.{int_rem_euclid}
use Rattle.awk_values.specs.declared.fault.Fault.{Fault}
use Rattle.awk_values.specs.declared.fault.Fault.TheVariants.{NextOutside}
use Rattle.awk_values.specs.declared.value.Value.TheVariants.{Uninit}
use Rattle.world_core.specs.WorldState.{Outside, Source, Action}
use Rattle.sem_primitives.specs.Jobs.{JobForm, Closed, Environment, fault_of_job, shared_in}
use Rattle.sem_primitives.specs.declared.answers.InputAnswer.{InputAnswer}
use Rattle.sem_primitives.specs.declared.answers.InputAnswer.TheVariants as input
use Rattle.sem_primitives.specs.declared.answers.AssignAnswer.{AssignAnswer}
use Rattle.sem_primitives.specs.declared.answers.AssignAnswer.TheVariants as assign
use Rattle.sem_primitives.specs.declared.constants.NameKind.{NameKind}
use Rattle.sem_primitives.specs.declared.constants.NameKind.TheVariants as kind
use Rattle.sem_primitives.specs.declared.table.Primitive.TheVariants as row
use Rattle.sem_scripts.specs.Names.{Name, Function, Resolved, names_length}
use Rattle.sem_scripts.specs.ScriptState.{State, Faulted, OutOfTurns, TooDeep, Nexted, Exited, Returned, Outcome, Gives, Stops, Execution, ◌>>=◌, ◌>>◌, nothing, stop, call, asks, spend}
use Rattle.sem_scripts.specs.Steps.{zero_number}
use Rattle.sem_scripts.specs.Meaning.{assign_pending}
use Rattle.sem_scripts.specs.Statements.{called}
use Rattle.sem_scripts.specs.Items.{top, items_done, begun, ended, reads_records}

-- The parts of a run.

-- the names of a script are announced: its global names, then its functions
abbrev pub kind_of : Bool → NameKind
kind_of true = kind.ArrayOrFunction
kind_of false = kind.Scalar

abbrev pub announced : List Name → Execution (Unit {0})
announced [] = nothing
announced (n ∷ ns) = call row.Declare (n.name, (kind_of n.is_array, tt)) >> announced ns

abbrev pub as_name : Function → Name
as_name f = record { name = f.name; is_array = true }

-- an array for each name of one
abbrev pub arrays_made : List Name → Execution (Unit {0})
arrays_made [] = nothing
arrays_made (n ∷ ns) = (if n.is_array then (call row.NewArray tt >> nothing) else nothing) >> arrays_made ns

-- the assignments before BEGIN, of which each costs a turn. At most n of them are left to the script
abbrev pub on_assignment : Execution (Unit {0}) → AssignAnswer → Execution (Unit {0})
on_assignment go assign.Pending = spend >> go
on_assignment go assign.NoneLeft = nothing

unfoldable pub first_assigned : ℕ → Execution (Unit {0})
first_assigned zero = asks row.StartAssign tt >>= on_assignment (stop OutOfTurns)
first_assigned (suc n) = asks row.StartAssign tt >>= on_assignment (assign_pending >> first_assigned n)

-- `next` ends what is done for a record, and no more
abbrev pub next_over : Outcome (Unit {0}) → Outcome (Unit {0})
next_over (Stops Nexted state) = Gives tt state
next_over (Gives u state) = Gives tt state
next_over other = other

abbrev pub for_record : Execution (Unit {0}) → Execution (Unit {0})
for_record items = λ state. next_over (items state)

-- the records of the main input, and the assignments between them: each costs a turn. At most n of them
abbrev pub on_input : (read : Execution (Unit {0})) → (pending : Execution (Unit {0})) → InputAnswer → Execution (Unit {0})
on_input read pending input.Read = spend >> read
on_input read pending input.Pending = spend >> pending
on_input read pending _ = nothing

unfoldable pub records_done : ℕ → Execution (Unit {0}) → Execution (Unit {0})
records_done zero items = asks row.NextMain tt >>= on_input (stop OutOfTurns) (stop OutOfTurns)
records_done (suc n) items = asks row.NextMain tt >>= on_input (for_record items >> records_done n items) (assign_pending >> records_done n items)

-- `exit` ends a part, and no more; what `next` would leave is not there
abbrev pub part_over : Outcome (Unit {0}) → Outcome (Unit {0})
part_over (Stops Exited state) = Gives tt state
part_over (Stops Nexted state) = Stops (Faulted NextOutside) state
part_over (Stops (Returned x) state) = Gives tt state
part_over (Gives u state) = Gives tt state
part_over other = other

abbrev pub part : Execution (Unit {0}) → Execution (Unit {0})
part actions = λ state. part_over (actions state)

-- What a script is to a run: its names, and what BEGIN, a record and END do.
pub record Parts : Type 0 where
  pub globals : List Name
  pub functions : List Name
  pub begin : Execution (Unit {0})
  pub reads : Bool
  pub items : Execution (Unit {0})
  pub end : Execution (Unit {0})

-- assignments, BEGIN, records and END, with at most n turns
abbrev pub all_parts : ℕ → Parts → Execution (Unit {0})
all_parts n parts = do
  a ← announced parts.globals
  b ← announced parts.functions
  c ← arrays_made parts.globals
  d ← first_assigned n
  e ← part (parts.begin >> if parts.reads then records_done n parts.items else nothing)
  f ← call row.BeginEnd tt
  part parts.end

abbrev pub parts_of : ℕ → Resolved → Parts
parts_of n script = record {
  globals = script.globals;
  functions = map as_name script.functions;
  begin = begun (top script) n (called script n) script.items >> nothing;
  reads = reads_records script.items;
  items = items_done (top script) n (called script n) 0 script.items >> nothing;
  end = ended (top script) n (called script n) script.items >> nothing;
}

-- with what a run has put out: it ended with a status, faulted, goes on after all its turns, or nested a call too deeply
pub data Ending : Type 0 where
  Ended : (status : ℕ) → List Action → Ending
  FaultedBy : Fault → List Action → Ending
  GoesOn Exhausted : List Action → Ending

-- the status is taken modulo 256
abbrev pub ending : Outcome (Unit {0}) → Ending
ending (Stops (Faulted fault) state) = FaultedBy fault state.shared.output
ending (Stops OutOfTurns state) = GoesOn state.shared.output
ending (Stops TooDeep state) = Exhausted state.shared.output
ending (Stops Nexted state) = FaultedBy NextOutside state.shared.output
ending (Stops Exited state) = Ended (unsigned_abs (int_rem_euclid state.status.number (pos 256))) state.shared.output
ending (Stops (Returned x) state) = Ended (unsigned_abs (int_rem_euclid state.status.number (pos 256))) state.shared.output
ending (Gives u state) = Ended (unsigned_abs (int_rem_euclid state.status.number (pos 256))) state.shared.output

-- a fault that the job brings comes before all else
abbrev pub unless : Option Fault → Execution (Unit {0}) → Execution (Unit {0})
unless (Some fault) doing = stop (Faulted fault)
unless None doing = doing

-- A run by its job, the standard input, what is outside, and its turns, where at most so many calls may be nested.
pub record Setting : Type 0 where
  pub job : JobForm
  pub input : Source
  pub outside : Environment
  pub deepest : ℕ

abbrev pub start : Setting → (globals : ℕ) → ℕ → State
start setting globals turns = record {
  turns = turns;
  globals = replicate globals Uninit;
  ranges = λ i. false;
  status = zero_number;
  own = record { locals = []; calls_left = setting.deepest };
  shared = shared_in setting.job setting.input setting.outside;
}

abbrev pub run_with : Setting → ℕ → Parts → Ending
run_with setting turns parts = ending (unless (fault_of_job setting.job) (all_parts turns parts) (start setting (names_length parts.globals) turns))

abbrev pub resolved_run : Resolved → Setting → ℕ → Ending
resolved_run script setting turns = run_with setting turns (parts_of turns script)

-- so many calls may be nested
abbrev pub most_calls : ℕ
most_calls = 9999

abbrev pub setting_in : JobForm → Source → Environment → Setting
setting_in job input environment = record { job = job; input = input; outside = environment; deepest = most_calls }

-- where nobody else changes what names hold
abbrev pub setting_of : JobForm → Source → Outside → Setting
setting_of job input outside = setting_in job input (Closed outside)
