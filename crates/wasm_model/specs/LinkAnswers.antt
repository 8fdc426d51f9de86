-- What linking answers for the numbers of imports.
use Rattle.std.specs.Prelude.{ℕ, ◌≡◌, List, map, Option, Some, Result, Ok, Err}
use Rattle.std.specs.declared.vec.Vec.{Vec}
use Rattle.std.specs.declared.alloc.Global.{Global}
use Rattle.wasm_model.specs.declared.fault.LinkFault.{LinkFault}
use Rattle.wasm_model.specs.declared.fault.LinkFault.TheVariants.{NoMain, BadImport, SegmentBounds, NoMemory}
use Rattle.wasm_model.specs.Links.{first_none}

-- either there are all numbers, or the first missing one is told
abbrev pub NumberRefused : List (Option ℕ) → LinkFault → Type 0
NumberRefused wanted NoMain = ⊥
NumberRefused wanted (BadImport i) = first_none wanted ≡ Some i
NumberRefused wanted SegmentBounds = ⊥
NumberRefused wanted NoMemory = Unit {0}

abbrev pub Numbers : Result (Vec ℕ Global) LinkFault → List (Option ℕ) → Type 0
Numbers (Ok v) wanted = wanted ≡ map Some v.items
Numbers (Err e) wanted = NumberRefused wanted e
