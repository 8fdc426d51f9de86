-- The state of the host.
use Rattle.std.specs.Prelude.{ℕ, List, Option}
use Rattle.awk_values.specs.declared.fault.Fault.{Fault}
use Rattle.awk_values.specs.declared.value.Value.{Value}
use Rattle.sem_primitives.specs.SharedState.{Shared}
use Rattle.host_step.specs.Tables.{Table}

-- What the numbers that the host gave out stand for: handles for values; an array's and an iterator's number for its number in the shared state,
-- where numbers only grow. ARGV is 0 and ENVIRON is 1 here and there.
pub record Names : Type 0 where
  pub values : Table Value
  pub arrays : Table ℕ
  pub iterators : Table ℕ

-- The tables; what a script and its host share (names that were announced, assignments to come, what is pending or kept for one call among it); the
-- argument list; the fault that is kept.
pub record HostState : Type 0 where
  pub names : Names
  pub shared : Shared
  pub arguments : List Value
  pub fault : Option Fault
