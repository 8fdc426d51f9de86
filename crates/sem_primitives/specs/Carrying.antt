-- How many assignments the main input and the first one before BEGIN carry out, computed. `Input` of agreement has the relations.
use Rattle.std.specs.Prelude.{ℕ, zero, suc, ◌-◌, ◌+◌, Bool, true, false, List, [], ◌∷◌, Option, Some, None, Result, Ok, Err, ℤ}
use Rattle.awk_values.specs.Values.{number_of_value}
use Rattle.awk_values.specs.declared.fault.Fault.{Fault}
use Rattle.world_core.specs.WorldState.{Outside, Source}
use Rattle.sem_primitives.specs.Limits.{most_operands}
use Rattle.sem_primitives.specs.SharedState.{Inner, MainReader, Operands, NoneLeft, special_of}
use Rattle.sem_primitives.specs.Finds.{seen}
use Rattle.sem_primitives.specs.Assignments.{assignment_of, assigned}
use Rattle.sem_primitives.specs.Records.{Got, Record, AtEnd, Broken}
use Rattle.sem_primitives.specs.InputParts.{next_record, reader_source, leaves, stops_reading, begins_reading, file_named, reader_of, operand_text, passes_operand, is_below}
use Rattle.sem_primitives.specs.declared.constants.Special.TheVariants.{Argc}

-- what was reached is counted, and what comes after it if it was carried out here
abbrev pub counted_by : (Inner → ℕ) → Result (Inner × Bool) Fault → ℕ
counted_by on (Ok (inner, true)) = 0
counted_by on (Ok (inner, false)) = suc (on inner)
counted_by on (Err fault) = 1

-- those before BEGIN
abbrev pub carried_from : List (List ℕ × List ℕ) → Inner → ℕ
carried_from [] inner = 0
carried_from (pair ∷ rest) inner = counted_by (carried_from rest) (assigned pair.0 pair.1 (record inner { assigns = rest }))

-- Those among the operands, as the main input reaches them: at the end of what is read the next operand is.

abbrev pub carried_behind : (Inner → ℕ) → MainReader → Inner → Result (Got × Source) Fault → ℕ
carried_behind on reader inner (Ok (AtEnd, left)) = on (stops_reading (leaves reader left inner))
carried_behind on reader inner (Ok (Record text, left)) = 0
carried_behind on reader inner (Ok (Broken, left)) = 0
carried_behind on reader inner (Err fault) = 0

abbrev pub carried_reading : (Inner → ℕ) → MainReader → Inner → ℕ
carried_reading on reader inner = carried_behind on reader inner (next_record inner (reader_source reader inner))

abbrev pub carried_opened : (Inner → ℕ) → List ℕ → Option MainReader → Inner → ℕ
carried_opened on name None inner = 0
carried_opened on name (Some reader) inner = carried_reading on reader (begins_reading name reader inner)

abbrev pub carried_operand : (Inner → ℕ) → Outside → List ℕ → Option (List ℕ × List ℕ) → Inner → ℕ
carried_operand on outside text (Some pair) inner = counted_by on (assigned pair.0 pair.1 inner)
carried_operand on outside text None inner = carried_opened on text (reader_of (seen inner outside) text) (file_named inner)

abbrev pub carried_taken : (Inner → ℕ) → Outside → List ℕ → Inner → ℕ
carried_taken on outside [] inner = on inner
carried_taken on outside (c ∷ cs) inner = carried_operand on outside (c ∷ cs) (assignment_of (c ∷ cs)) inner

abbrev pub carried_reached : (Inner → ℕ) → Outside → Inner → Result ℤ Fault → ℕ
carried_reached on outside inner (Ok argc) =
    elim (is_below inner.main.next argc) [ true ↦ carried_taken on outside (operand_text inner.main.next inner) (passes_operand inner) | false ↦ 0 ]
carried_reached on outside inner (Err fault) = 0

-- the next operand is reached, and those behind it; n may still be taken
abbrev pub carried_reach : ℕ → Outside → Inner → ℕ
carried_reach zero outside inner = 0
carried_reach (suc n) outside inner = carried_reached (carried_reach n outside) outside inner (number_of_value (special_of inner Argc))

abbrev pub carried_by : Operands → Outside → Inner → ℕ
carried_by NoneLeft outside inner = 0
carried_by _ outside inner = carried_reach (most_operands + 1 - inner.main.next) outside inner

abbrev pub carried_next : Outside → Inner → ℕ
carried_next outside inner = carried_by inner.main.operands outside inner

abbrev pub carried_on : Bool → Option MainReader → Outside → Inner → ℕ
carried_on true reading outside inner = 0
carried_on false None outside inner = carried_next outside inner
carried_on false (Some reader) outside inner = carried_reading (carried_next outside) reader inner

abbrev pub carried_main : Outside → Inner → ℕ
carried_main outside inner = carried_on inner.main.ended inner.main.reading outside inner
