-- Locals as runs of one type, each of which goes from where the one before ends up to its own end.
use Rattle.std.specs.Prelude.{ℕ, zero, suc, ◌-◌, ◌<◌, List, [], ◌∷◌, ◌++◌, replicate}
use Rattle.wasm_types.specs.declared.types.ValType.{ValType}
use Rattle.wasm_types.specs.declared.locals.Run.{Run}

-- the types of the locals from a number on
abbrev pub expanded_from : ℕ → List Run → List ValType
expanded_from first [] = []
expanded_from first (r ∷ rs) = replicate (r.end - first) r.ty ++ expanded_from r.end rs

-- no run is empty
abbrev pub Rises : ℕ → List Run → Type 0
Rises first [] = Unit {0}
Rises first (r ∷ rs) = (first < r.end) × Rises r.end rs

-- the number behind all locals
abbrev pub past_all : ℕ → List Run → ℕ
past_all first [] = first
past_all first (r ∷ rs) = past_all r.end rs

-- the number of the first local of the run of this place, or the number behind all of them
abbrev pub start_of : ℕ → List Run → ℕ → ℕ
start_of first rs zero = first
start_of first [] (suc k) = first
start_of first (r ∷ rs) (suc k) = start_of r.end rs k
