-- What an import does on cells. Its meaning is the table's; here is how arguments are taken and answers are given, and what becomes of a call once a
-- fault is kept.
use Rattle.std.specs.Prelude.{ℕ, ◌-◌, ◌+◌, ◌^◌, nat_le, nat_lt, Bool, true, false, ◌&&◌, if◌then◌else◌, List, [], ◌∷◌, ◌++◌, length, take, drop, Option, Some, None, Result, Ok, Err}
use Rattle.awk_values.specs.declared.fault.Fault.{Fault}
use Rattle.awk_values.specs.declared.value.Value.{Value as AnyValue}
use Rattle.sem_primitives.specs.Carried.{carried_out}
use Rattle.sem_primitives.specs.Constants.{InConstant, constant_at}
use Rattle.sem_primitives.specs.ConstantNumbers.{flag_number}
use Rattle.sem_primitives.specs.InTurn.{in_turn, values_taken, listed_in_turn}
use Rattle.sem_primitives.specs.Numbers.{faulted_word, number_of_word, number_word}
use Rattle.sem_primitives.specs.SharedState.{Shared, HostResult, gives, shared_after}
use Rattle.sem_primitives.specs.Sorts.{In, InAnswer, InArgument, OrFault, Row}
use Rattle.sem_primitives.specs.Table.{can_fault, meaning, listed_answer, listed_meaning}
use Rattle.sem_primitives.specs.declared.sorts.Sort.{Sort}
use Rattle.sem_primitives.specs.declared.sorts.Sort.TheVariants as sort
use Rattle.sem_primitives.specs.declared.sorts.Constant.{Constant}
use Rattle.sem_primitives.specs.declared.sorts.Argument.{Argument}
use Rattle.sem_primitives.specs.declared.sorts.Argument.TheVariants as argument
use Rattle.sem_primitives.specs.declared.sorts.Answer.{Answer}
use Rattle.sem_primitives.specs.declared.sorts.Answer.TheVariants as answer
use Rattle.sem_primitives.specs.declared.table.Listed.{Listed}
use Rattle.sem_primitives.specs.declared.table.Listed.TheVariants as listed
use Rattle.sem_primitives.specs.declared.table.Primitive.TheVariants as row
use Rattle.wasm_store.specs.declared.word.Word.{Word}
use Rattle.wasm_store.specs.declared.word.Word.TheVariants.{I32, I64}
use Rattle.host_imports.specs.Codes.{input_code, assign_code, stream_code, end_word}
use Rattle.lower_model.specs.Cells.{Cell, Bits, Held, IteratorOf, OwnedArray, LentArray, none_owned}
use Rattle.host_imports.specs.Imports.{import_arguments, import_answer, lets_go}
use Rattle.host_imports.specs.declared.import.VariadicImport.TheVariants.{Sprintf, Print, Printf}
use Rattle.host_imports.specs.declared.import.Import.{Import}
use Rattle.host_imports.specs.declared.import.Import.TheVariants.{OfPrimitive, Variadic, Arg, Drop, IterFree, FreeArray}

-- the host beside its tables: what it shares with the script, the argument list, and the fault that is kept
pub record Host : Type 0 where
  pub shared : Shared
  pub arguments : List AnyValue
  pub fault : Option Fault

abbrev pub with_some : {A B : Type 0} → Option A → (A → Option B) → Option B
with_some None next = None
with_some (Some found) next = next found

abbrev pub where_so : {A : Type 0} → Bool → Option A → Option A
where_so true found = found
where_so false found = None

-- Arguments: what is owned is taken.

-- ARGV and ENVIRON
abbrev pub array_of_word : Word → Option ℕ
array_of_word (I32 number) = if nat_lt number 2 then Some number else None
array_of_word (I64 number) = None

abbrev pub number_in_word : Word → Option (In sort.Number)
number_in_word (I64 number) = number_of_word number
number_in_word (I32 number) = None

abbrev pub in_sort : (wanted : Sort) → Cell → Option (In wanted)
in_sort sort.Value (Held value) = Some value
in_sort sort.Number (Bits word) = number_in_word word
in_sort sort.Array (LentArray array) = Some array
in_sort sort.Array (Bits word) = array_of_word word
in_sort sort.Iterator (IteratorOf keys) = Some keys
in_sort _ _ = None

abbrev pub in_constant : (constant : Constant) → Cell → Option (InConstant constant)
in_constant constant (Bits (I32 number)) = constant_at constant number
in_constant constant _ = None

-- the bytes of a place in memory; none where the place is not within it
abbrev pub text_at : List ℕ → ℕ → ℕ → Option (List ℕ)
text_at memory place size = if nat_le (place + size) (length memory) then Some (take size (drop place memory)) else None

abbrev pub and_rest : {A : Type 0} → Option A → List Cell → Option (A × List Cell)
and_rest None rest = None
and_rest (Some found) rest = Some (found, rest)

abbrev pub first_argument : List ℕ → (wanted : Argument) → List Cell → Option (InArgument wanted × List Cell)
first_argument memory (argument.Of wanted) (cell ∷ rest) = and_rest (in_sort wanted cell) rest
first_argument memory (argument.Constant constant) (cell ∷ rest) = and_rest (in_constant constant cell) rest
first_argument memory argument.Place (Bits (I32 place) ∷ (Bits (I32 size) ∷ rest)) = and_rest (text_at memory place size) rest
first_argument memory _ _ = None

abbrev pub row_in : List ℕ → (wanted : List Argument) → List Cell → Option (Row wanted)
row_in memory [] [] = Some tt
row_in memory [] (cell ∷ cells) = None
row_in memory (first ∷ wanted) cells =
    with_some (first_argument memory first cells) (λ found. with_some (row_in memory wanted found.1) (λ rest. Some (found.0, rest)))

-- `dup` and `iter_next` take nothing: they only look. An array is freed by who owns it.
abbrev pub taken : List ℕ → (import : Import) → List Cell → Option (Row (import_arguments import))
taken memory (OfPrimitive row.Dup) cells = None
taken memory (OfPrimitive row.IterNext) cells = None
taken memory FreeArray (OwnedArray array ∷ []) = Some (array, tt)
taken memory FreeArray cells = None
taken memory import cells = row_in memory (import_arguments import) cells

abbrev pub looked_at : (import : Import) → Cell → Option (Row (import_arguments import))
looked_at (OfPrimitive row.Dup) (Held value) = Some (value, tt)
looked_at (OfPrimitive row.IterNext) (IteratorOf keys) = Some (keys, tt)
looked_at import cell = None

-- Answers.

abbrev pub cell_of_sort : (wanted : Sort) → In wanted → Cell
cell_of_sort sort.Value value = Held value
cell_of_sort sort.Number number = Bits (I64 (number_word number))
cell_of_sort sort.Array array = OwnedArray array
cell_of_sort sort.Iterator keys = IteratorOf keys

abbrev pub key_or_end : Option AnyValue → Cell
key_or_end None = Bits end_word
key_or_end (Some value) = Held value

abbrev pub cell_of : (wanted : Answer) → InAnswer wanted → Option Cell
cell_of answer.Nothing given = None
cell_of (answer.Of wanted) given = Some (cell_of_sort wanted given)
cell_of answer.Truth holds = Some (Bits (I32 (flag_number holds)))
cell_of answer.Done given = Some (Bits (I32 0))
cell_of answer.Input given = Some (Bits (I32 (input_code given)))
cell_of answer.Assign given = Some (Bits (I32 (assign_code given)))
cell_of answer.Stream given = Some (Bits (I32 (stream_code given)))
cell_of answer.ValueOrEnd given = Some (key_or_end given)
cell_of answer.Name number = Some (Bits (I32 number))

-- a fault: -1, or the least number of 64 bits
abbrev pub fault_cell : Answer → Option Cell
fault_cell answer.Nothing = None
fault_cell (answer.Of sort.Number) = Some (Bits (I64 faulted_word))
fault_cell _ = Some (Bits (I32 (2 ^ 32 - 1)))

-- What an import does: to what is shared, and to the argument list.

pub record Acts (A : Type 0) : Type 0 where
  pub does : HostResult (Result A Fault)
  pub arguments : List AnyValue

abbrev pub or_fault : {A : Type 0} → (faults : Bool) → OrFault faults A → Result A Fault
or_fault true given = given
or_fault false given = Ok given

-- a primitive leaves the argument list as it is
abbrev pub primitive_acts : {A : Type 0} → List AnyValue → (faults : Bool) → HostResult (OrFault faults A) → Acts A
primitive_acts arguments faults done =
    record { does = record { added = done.added; inner = done.inner; answer = or_fault faults done.answer }; arguments = arguments }

-- the last values of the argument list, and those before them
abbrev pub last_of : ℕ → List AnyValue → List AnyValue
last_of count values = drop (length values - count) values

abbrev pub before_last_of : ℕ → List AnyValue → List AnyValue
before_last_of count values = take (length values - count) values

abbrev pub listed_acts : (what : Listed) → ℕ → Host → Option (Acts (InAnswer (listed_answer what)))
listed_acts what count host = where_so (nat_le count (length host.arguments) && listed_in_turn what (last_of count host.arguments))
    (Some (record { does = listed_meaning what (last_of count host.arguments) host.shared; arguments = before_last_of count host.arguments }))

abbrev pub only_answers : Host → List AnyValue → Acts (Unit {0})
only_answers host arguments = record { does = gives host.shared (Ok tt); arguments = arguments }

-- a call that is out of turn does nothing here: a module makes none
abbrev pub acts : (import : Import) → Row (import_arguments import) → Host → Option (Acts (InAnswer (import_answer import)))
acts (OfPrimitive primitive) given host =
    where_so (in_turn primitive given host.shared) (Some (primitive_acts host.arguments (can_fault primitive) (meaning primitive given host.shared)))
acts (Variadic Sprintf) given host = listed_acts listed.Sprintf (values_taken listed.Sprintf given.0) host
acts (Variadic Print) given host = listed_acts (listed.Print given.1.0) (values_taken (listed.Print given.1.0) given.0) host
acts (Variadic Printf) given host = listed_acts (listed.Printf given.1.0) (values_taken (listed.Printf given.1.0) given.0) host
acts Arg given host = Some (only_answers host (host.arguments ++ given.0 ∷ []))
acts Drop given host = Some (only_answers host host.arguments)
acts IterFree given host = Some (only_answers host host.arguments)
acts FreeArray given host = Some (only_answers host host.arguments)

abbrev pub replied : (wanted : Answer) → Host → Acts (InAnswer wanted) → Result (InAnswer wanted) Fault → Option Cell × Host
replied wanted host done (Ok given) =
    (cell_of wanted given, record { shared = shared_after host.shared done.does; arguments = done.arguments; fault = host.fault })
replied wanted host done (Err fault) =
    (fault_cell wanted, record { shared = shared_after host.shared done.does; arguments = done.arguments; fault = Some fault })

abbrev pub acted : (import : Import) → Host → Option (Row (import_arguments import)) → Option (Option Cell × Host)
acted import host given =
    with_some given (λ operands. with_some (acts import operands host) (λ done. Some (replied (import_answer import) host done done.does.answer)))

-- once a fault is kept these still let go, and the others only refuse: nothing that is owned may be given to them

abbrev pub after_fault : List ℕ → (import : Import) → List Cell → Host → Option (Option Cell × Host)
after_fault memory import cells host =
    if lets_go import then acted import host (taken memory import cells) else where_so (none_owned cells) (Some (fault_cell (import_answer import), host))

abbrev pub call : List ℕ → (import : Import) → List Cell → Host → Option (Option Cell × Host)
call memory import cells host = elim host.fault [ None ↦ acted import host (taken memory import cells) | Some fault ↦ after_fault memory import cells host ]

-- the same for an import that looks at its argument
abbrev pub look : (import : Import) → Cell → Host → Option (Option Cell × Host)
look import cell host = elim host.fault [ None ↦ acted import host (looked_at import cell) | Some fault ↦ None ]

-- how many turns a script spends on assignments that a call carries out by itself
abbrev pub carried_by : Import → Shared → ℕ
carried_by (OfPrimitive primitive) shared = carried_out primitive shared
carried_by _ shared = 0
