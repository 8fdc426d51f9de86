-- What the words of a call say, over the host's map of values.
use Rattle.std.specs.Prelude.{ℤ, List, ◌∷◌, Option, Some, None, Result, Ok, Err}
use Rattle.std.specs.Borrow.{Bor}
use Rattle.std.specs.Int.{w32, cast_signed}
use Rattle.std.specs.Ordering.{int_cmp}
use Rattle.std.specs.FinMap as map
use Rattle.std.specs.FinMap.{FinMap}
use Rattle.awk_values.specs.declared.value.Value.{Value}
use Rattle.sem_primitives.specs.Numbers.{Number}
use Rattle.wasm_store.specs.declared.trap.TrapKind.{TrapKind}
use Rattle.wasm_store.specs.declared.trap.TrapKind.TheVariants.{BadHandle, BadArgument}
use Rattle.wasm_store.specs.declared.word.Word.{Word}
use Rattle.wasm_store.specs.declared.word.Word.TheVariants.{I32}

abbrev pub found : ℤ → Option Value → List Word → Result (ℤ × Value × List Word) TrapKind
found h None rest = Err BadHandle
found h (Some v) rest = Ok (h, v, rest)

-- the handle at the front of the words, its value, and the words behind it
abbrev pub handle_front : FinMap int_cmp Value → List Word → Result (ℤ × Value × List Word) TrapKind
handle_front values (I32 n ∷ rest) = found (cast_signed w32 n) (map.get values (cast_signed w32 n)) rest
handle_front values _ = Err BadArgument

abbrev pub plain_number : Result (Number × List Word) TrapKind → Result (ℤ × List Word) TrapKind
plain_number (Ok x) = Ok (x.0.number, x.1)
plain_number (Err k) = Err k

-- what a borrowed front is

abbrev pub lent : {A : Type 0} → Result (Bor A × Bor (List Word)) TrapKind → Result (A × List Word) TrapKind
lent (Ok x) = Ok (x.0.now, x.1.now)
lent (Err r) = Err r

abbrev pub owned : {A : Type 0} → Result (A × Bor (List Word)) TrapKind → Result (A × List Word) TrapKind
owned (Ok x) = Ok (x.0, x.1.now)
owned (Err r) = Err r

abbrev pub lent_handle : Result (ℤ × Bor Value × Bor (List Word)) TrapKind → Result (ℤ × Value × List Word) TrapKind
lent_handle (Ok x) = Ok (x.0, x.1.now, x.2.now)
lent_handle (Err r) = Err r
