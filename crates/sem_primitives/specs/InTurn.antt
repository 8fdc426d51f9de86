-- When a call is in turn: a compiled script makes no other, and the host traps one that is not.
use Rattle.std.specs.Prelude.{ℕ, suc, Bool, true, not, nat_le, is_some, List, length}
use Rattle.awk_values.specs.declared.value.Value.{Value}
use Rattle.sem_primitives.specs.SharedState.{Shared}
use Rattle.sem_primitives.specs.Sorts.{Row}
use Rattle.sem_primitives.specs.Assignments.{declared}
use Rattle.sem_primitives.specs.Table.{arguments_of}
use Rattle.sem_primitives.specs.declared.constants.Destination.{Destination}
use Rattle.sem_primitives.specs.declared.constants.Destination.TheVariants.{Standard, Emptied, Appended}
use Rattle.sem_primitives.specs.declared.table.Listed.{Listed}
use Rattle.sem_primitives.specs.declared.table.Listed.TheVariants.{Sprintf, Print, Printf}
use Rattle.sem_primitives.specs.declared.table.Primitive.{Primitive}
use Rattle.sem_primitives.specs.declared.table.Primitive.TheVariants.{SubResult, Line, NextMain, Getline, GetlineVar, Declare, StartAssign, PendingName, PendingValue}

-- What is kept is there, an assignment that is pending is made before anything else of the input, and a name is announced once.
abbrev pub in_turn : (p : Primitive) → Row (arguments_of p) → Shared → Bool
in_turn SubResult row state = is_some state.inner.substituted
in_turn Line row state = is_some state.inner.line
in_turn NextMain row state = not (is_some state.inner.pending)
in_turn Getline row state = not (is_some state.inner.pending)
in_turn GetlineVar row state = not (is_some state.inner.pending)
in_turn StartAssign row state = not (is_some state.inner.pending)
in_turn PendingName row state = is_some state.inner.pending
in_turn PendingValue row state = is_some state.inner.pending
in_turn Declare row state = not (is_some (declared 0 row.0 state.inner.names))
in_turn _ row state = true

-- Calls over a list of values.

-- how many values a call takes from the list for a count: the name of its file is one more, and the last of them
abbrev pub with_name : Destination → ℕ → ℕ
with_name Standard count = count
with_name Emptied count = suc count
with_name Appended count = suc count

abbrev pub values_taken : Listed → ℕ → ℕ
values_taken Sprintf count = count
values_taken (Print to) count = with_name to count
values_taken (Printf to) count = with_name to count

-- a format is a value of its own, and so is the name of a file; print alone may have no operand, and puts an empty line out
abbrev pub values_wanted : Listed → ℕ
values_wanted Sprintf = 1
values_wanted (Print to) = with_name to 0
values_wanted (Printf to) = with_name to 1

-- the values that are taken are enough
abbrev pub listed_in_turn : Listed → List Value → Bool
listed_in_turn l values = nat_le (values_wanted l) (length values)
