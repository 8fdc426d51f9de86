-- States for the examples, and calls one after another.
use Rattle.std.specs.Prelude.{ℕ, T, true, List, [], nat_le, unsigned_abs, Some, None, Result, Ok, Err, ℤ, pos}
use Rattle.awk_text.specs.Number.{largest}
use Rattle.awk_values.specs.declared.fault.Fault.{Fault}
use Rattle.awk_values.specs.declared.value.Value.{Value}
use Rattle.awk_values.specs.declared.value.Value.TheVariants.{Text}
use Rattle.world_core.specs.declared.world.Ending.{Ending}
use Rattle.world_core.specs.declared.world.Ending.TheVariants.{End}
use Rattle.world_core.specs.WorldState.{Named, Outside, Source, absent, replaced}
use Rattle.sem_primitives.specs.Numbers.{Number}
use Rattle.sem_primitives.specs.SharedState.{Shared, shared_after}
use Rattle.sem_primitives.specs.Sorts.{InAnswer, OrFault, Row}
use Rattle.sem_primitives.specs.Jobs.{JobForm}
use Rattle.sem_primitives.specs.ClosedJobs.{shared_at_start}
use Rattle.sem_primitives.specs.Table.{arguments_of, answer_of, can_fault, meaning, listed_meaning}
use Rattle.sem_primitives.specs.declared.table.Primitive.{Primitive}
use Rattle.sem_primitives.specs.declared.table.Listed.{Listed}
use Rattle.sem_primitives.specs.declared.constants.Special.{Special}
use Rattle.sem_primitives.specs.declared.table.Primitive.TheVariants.{GetSpecial, SetSpecial, SetField}

abbrev pub number : (z : ℤ) → T (nat_le (unsigned_abs z) largest) → Number
number z in_range = record { number = z; in_range = in_range }

abbrev pub job_of : List (List ℕ) → JobForm
job_of operands = record { operands = operands; assigns = []; environment = [] }

abbrev pub source : List ℕ → Ending → Source
source bytes ending = record { rest = bytes; ending = ending }

abbrev pub nothing : Source
nothing = source [] End

abbrev pub empty : Outside
empty = λ target. absent

-- a name holds bytes, and then reading ends, or fails
abbrev pub with_file : List ℕ → List ℕ → Ending → Outside → Outside
with_file name bytes ending outside = replaced (Named name) (record { bytes = Some bytes; ending = ending; room = None; opens = true }) outside

-- a script without operands, with this input
abbrev pub reading : List ℕ → Ending → Shared
reading bytes ending = shared_at_start (job_of []) (source bytes ending) empty

abbrev pub at_start : Shared
at_start = reading [] End

-- the state after a call, also after a fault
abbrev pub after_call : (p : Primitive) → Row (arguments_of p) → Shared → Shared
after_call p row state = shared_after state (meaning p row state)

abbrev pub after_list : Listed → List Value → Shared → Shared
after_list l values state = shared_after state (listed_meaning l values state)

abbrev pub answered : (p : Primitive) → Row (arguments_of p) → Shared → OrFault (can_fault p) (InAnswer (answer_of p))
answered p row state = (meaning p row state).answer

-- what a reader sees of the record: `$0`, the fields, and some special variables
abbrev pub setting : Special → List ℕ → Shared → Shared
setting s text state = after_call SetSpecial (s, (Text text, tt)) state

abbrev pub setting_record : List ℕ → Shared → Shared
setting_record text state = after_call SetField (number (pos 0) tt, (Text text, tt)) state

abbrev pub special : Special → Shared → Value
special s state = answered GetSpecial (s, tt) state

abbrev pub plain : Result Number Fault → Result ℤ Fault
plain (Ok n) = Ok n.number
plain (Err fault) = Err fault
