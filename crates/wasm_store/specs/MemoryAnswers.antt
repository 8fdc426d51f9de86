-- Whether memory has an address, as an answer.
use Rattle.std.specs.Prelude.{Bool, true, false, Option, Some, None, Result, Ok, Err, ⊤}
use Rattle.wasm_store.specs.declared.trap.TrapKind.{TrapKind}
use Rattle.wasm_store.specs.declared.trap.TrapKind.TheVariants.{MemoryBounds}
use Rattle.wasm_store.specs.declared.word.Word.{Word}

abbrev pub found : Option Word → Result Word TrapKind
found None = Err MemoryBounds
found (Some w) = Ok w

abbrev pub told : Bool → Result ⊤ TrapKind
told true = Ok tt
told false = Err MemoryBounds
