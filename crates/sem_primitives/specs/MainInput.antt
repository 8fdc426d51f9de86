-- What the main input gives, and what is made of assignments before BEGIN, computed. `Input` of agreement has the relations.
use Rattle.std.specs.Prelude.{ℕ, zero, suc, ◌+◌, Bool, true, false, List, [], ◌∷◌, Option, Some, None, Result, Ok, ℤ, ◌-◌}
use Rattle.awk_values.specs.Values.{number_of_value}
use Rattle.awk_values.specs.declared.fault.Fault.{Fault}
use Rattle.world_core.specs.WorldState.{Outside, Source}
use Rattle.sem_primitives.specs.Limits.{most_operands}
use Rattle.sem_primitives.specs.SharedState.{Inner, MainReader, Standard, Operands, NoFile, NoneLeft, ◌>>=◌, special_of}
use Rattle.sem_primitives.specs.Finds.{seen}
use Rattle.sem_primitives.specs.Records.{Got, Record, AtEnd, Broken}
use Rattle.sem_primitives.specs.Assignments.{assignment_of, assigned}
use Rattle.sem_primitives.specs.InputParts.{Failed, Main, NotOpened, Over, Pending, Taken, begins_reading, file_named, is_below, leaves, next_record, operand_text, passes_operand, reader_of, reader_source, stops_reading, with_operands}
use Rattle.sem_primitives.specs.declared.answers.AssignAnswer.{AssignAnswer}
use Rattle.sem_primitives.specs.declared.answers.AssignAnswer.TheVariants as assign
use Rattle.sem_primitives.specs.declared.constants.Special.TheVariants.{Argc}

-- what the reader at hand gives; at its end the next operand is reached
abbrev pub got_main : (Inner → Result (Inner × Main) Fault) → MainReader → Inner → Got × Source → Result (Inner × Main) Fault
got_main on reader inner (Record text, left) = Ok (leaves reader left inner, Taken text)
got_main on reader inner (AtEnd, left) = on (stops_reading (leaves reader left inner))
got_main on reader inner (Broken, left) = Ok (leaves reader left inner, Failed)

abbrev pub read_main : (Inner → Result (Inner × Main) Fault) → MainReader → Inner → Result (Inner × Main) Fault
read_main on reader inner = next_record inner (reader_source reader inner) >>= λ got. got_main on reader inner got

-- one that does not open is passed over
abbrev pub opened : (Inner → Result (Inner × Main) Fault) → List ℕ → Option MainReader → Inner → Result (Inner × Main) Fault
opened on name None inner = Ok (inner, NotOpened)
opened on name (Some reader) inner = read_main on reader (begins_reading name reader inner)

abbrev pub made : (Inner → Result (Inner × Main) Fault) → Inner × Bool → Result (Inner × Main) Fault
made on (inner, true) = Ok (inner, Pending)
made on (inner, false) = on inner

abbrev pub file_or_assignment : (Inner → Result (Inner × Main) Fault) → Outside → List ℕ → Option (List ℕ × List ℕ) → Inner → Result (Inner × Main) Fault
file_or_assignment on outside text (Some pair) inner = assigned pair.0 pair.1 inner >>= λ x. made on x
file_or_assignment on outside text None inner = opened on text (reader_of (seen inner outside) text) (file_named inner)

-- an empty operand is skipped
abbrev pub taken : (Inner → Result (Inner × Main) Fault) → Outside → List ℕ → Inner → Result (Inner × Main) Fault
taken on outside [] inner = on inner
taken on outside (c ∷ cs) inner = file_or_assignment on outside (c ∷ cs) (assignment_of (c ∷ cs)) inner

-- the end is told, and stays
abbrev pub over : Inner → Result (Inner × Main) Fault
over inner = Ok (record inner { main = record inner.main { ended = true } }, Over)

-- behind the operands: the standard input follows if none of them named a file
abbrev pub follows : Operands → Inner → Result (Inner × Main) Fault
follows NoFile inner = read_main over Standard (begins_reading [] Standard (with_operands NoneLeft inner))
follows _ inner = over inner

-- ARGC says how many operands there are, each time that one is to be reached
abbrev pub with_argc : Inner → (ℤ → Result (Inner × Main) Fault) → Result (Inner × Main) Fault
with_argc inner go = number_of_value (special_of inner Argc) >>= go

abbrev pub reached : (Inner → Result (Inner × Main) Fault) → Outside → Inner → ℤ → Result (Inner × Main) Fault
reached on outside inner argc = elim (is_below inner.main.next argc) [
  | true ↦ taken on outside (operand_text inner.main.next inner) (passes_operand inner)
  | false ↦ follows inner.main.operands inner
]

-- the next operand is reached, and those behind it; n may still be taken
abbrev pub reach : ℕ → Outside → Inner → Result (Inner × Main) Fault
reach zero outside inner = with_argc inner (λ argc. follows inner.main.operands inner)
reach (suc n) outside inner = with_argc inner (reached (reach n outside) outside inner)

-- no operand behind the last one by number is reached
abbrev pub reach_by : Operands → Outside → Inner → Result (Inner × Main) Fault
reach_by NoneLeft outside inner = over inner
reach_by _ outside inner = reach (most_operands + 1 - inner.main.next) outside inner

abbrev pub next_operand : Outside → Inner → Result (Inner × Main) Fault
next_operand outside inner = reach_by inner.main.operands outside inner

abbrev pub go_on : Bool → Option MainReader → (Inner → Result (Inner × Main) Fault) → Inner → Result (Inner × Main) Fault
go_on true reading on inner = Ok (inner, Over)
go_on false None on inner = on inner
go_on false (Some reader) on inner = read_main on reader inner

-- what the main input gives next
abbrev pub main_input : Outside → Inner → Result (Inner × Main) Fault
main_input outside inner = go_on inner.main.ended inner.main.reading (next_operand outside) inner

abbrev pub start_by : (Inner → Result (Inner × AssignAnswer) Fault) → Inner × Bool → Result (Inner × AssignAnswer) Fault
start_by on (inner, true) = Ok (inner, assign.Pending)
start_by on (inner, false) = on inner

abbrev pub start_from : List (List ℕ × List ℕ) → Inner → Result (Inner × AssignAnswer) Fault
start_from [] inner = Ok (record inner { assigns = [] }, assign.NoneLeft)
start_from (pair ∷ rest) inner = assigned pair.0 pair.1 (record inner { assigns = rest }) >>= λ x. start_by (start_from rest) x

abbrev pub start_assign_row : Inner → Result (Inner × AssignAnswer) Fault
start_assign_row inner = start_from inner.assigns inner
