-- The assignments of the command line that a call carries out itself: those to special variables, and those to names that the script does
-- not have. (One to a variable of the script is left pending.) Each assignment of the command line costs the script a turn, these too; one
-- that faults is counted as well, since it was reached.
use Rattle.std.specs.Prelude.{ℕ, Bool, true, false}
use Rattle.sem_primitives.specs.SharedState.{Shared}
use Rattle.sem_primitives.specs.Carrying.{carried_from, carried_main}
use Rattle.sem_primitives.specs.declared.table.Primitive.{Primitive}
use Rattle.sem_primitives.specs.declared.table.Primitive.TheVariants.{NextMain, Getline, GetlineVar, StartAssign}

-- in the actions of END nothing is read
abbrev pub unless_in_end : Bool → ℕ → ℕ
unless_in_end true n = 0
unless_in_end false n = n

-- how many assignments a call carries out
abbrev pub carried_out : Primitive → Shared → ℕ
carried_out StartAssign state = carried_from state.inner.assigns state.inner
carried_out NextMain state = carried_main state.outside state.inner
carried_out Getline state = unless_in_end state.inner.in_end (carried_main state.outside state.inner)
carried_out GetlineVar state = unless_in_end state.inner.in_end (carried_main state.outside state.inner)
carried_out _ state = 0
