-- What words say over the host's tables, where arrays and iterators go by their numbers.
use Rattle.std.specs.Prelude.{ℤ, Bool, true, false, List, ◌∷◌, Result, Ok, Err}
use Rattle.std.specs.Borrow.{Bor}
use Rattle.std.specs.Int.{w32, cast_signed}
use Rattle.std.specs.Ordering.{int_cmp}
use Rattle.std.specs.FinMap as map
use Rattle.std.specs.FinMap.{FinMap}
use Rattle.awk_values.specs.declared.value.Value.{Value}
use Rattle.wasm_store.specs.declared.trap.TrapKind.{TrapKind}
use Rattle.wasm_store.specs.declared.trap.TrapKind.TheVariants.{BadHandle, BadArgument}
use Rattle.wasm_store.specs.declared.word.Word.{Word}
use Rattle.wasm_store.specs.declared.word.Word.TheVariants.{I32}
use Rattle.host_step.specs.Arguments.{and_then, no_more}
use Rattle.host_values.specs.Evaluations.{Values}
use Rattle.host_values.specs.Fronts.{handle_front}
use Rattle.host_values.specs.Singles.{only_handle}
use Rattle.host_values.specs.Forms.{Arrays}

abbrev pub known : Bool → ℤ → List Word → Result (ℤ × List Word) TrapKind
known true n rest = Ok (n, rest)
known false n rest = Err BadHandle

-- the number of an array or of an iterator, and the words behind it
abbrev pub number_front : {A : Type 0} → FinMap int_cmp A → List Word → Result (ℤ × List Word) TrapKind
number_front held (I32 n ∷ rest) = known (map.contains_key held (cast_signed w32 n)) (cast_signed w32 n) rest
number_front held _ = Err BadArgument

-- it alone
abbrev pub only_number : {A : Type 0} → FinMap int_cmp A → List Word → Result ℤ TrapKind
only_number held words = and_then (number_front held words) (λ x. and_then (no_more x.1) (λ end. Ok x.0))

-- two values: their handles and themselves
abbrev pub two_handles : Values → List Word → Result (ℤ × Value × ℤ × Value) TrapKind
two_handles values words =
    and_then (handle_front values words) (λ x.
    and_then (only_handle (map.remove values x.0) x.2) (λ y.
    Ok (x.0, x.1, y.0, y.1)))

-- an array and a value
abbrev pub array_and_value : Arrays → Values → List Word → Result (ℤ × ℤ × Value) TrapKind
array_and_value arrays values words =
    and_then (number_front arrays words) (λ x.
    and_then (only_handle values x.1) (λ y.
    Ok (x.0, y.0, y.1)))

-- an array and two values
abbrev pub array_and_two : Arrays → Values → List Word → Result (ℤ × ℤ × Value × ℤ × Value) TrapKind
array_and_two arrays values words =
    and_then (number_front arrays words) (λ x.
    and_then (two_handles values x.1) (λ y.
    Ok (x.0, y.0, y.1, y.2, y.3)))

-- what the code reads, of what it borrows

abbrev pub owned_number : Result (ℤ × Bor (List Word)) TrapKind → Result (ℤ × List Word) TrapKind
owned_number (Ok x) = Ok (x.0, x.1.now)
owned_number (Err k) = Err k

abbrev pub lent_two : Result (ℤ × Bor Value × ℤ × Bor Value) TrapKind → Result (ℤ × Value × ℤ × Value) TrapKind
lent_two (Ok x) = Ok (x.0, x.1.now, x.2, x.3.now)
lent_two (Err k) = Err k

abbrev pub lent_value : Result (ℤ × ℤ × Bor Value) TrapKind → Result (ℤ × ℤ × Value) TrapKind
lent_value (Ok x) = Ok (x.0, x.1, x.2.now)
lent_value (Err k) = Err k

abbrev pub lent_key : Result (ℤ × ℤ × Bor Value × ℤ) TrapKind → Result (ℤ × ℤ × Value × ℤ) TrapKind
lent_key (Ok x) = Ok (x.0, x.1, x.2.now, x.3)
lent_key (Err k) = Err k

-- the array, the handle of the key, the key, the handle of the value
abbrev pub but_value : Result (ℤ × ℤ × Value × ℤ × Value) TrapKind → Result (ℤ × ℤ × Value × ℤ) TrapKind
but_value (Ok x) = Ok (x.0, x.1, x.2, x.3)
but_value (Err k) = Err k
