-- What a function holds beside its answer, one sort like another.
use Rattle.std.specs.Prelude.{ℕ, zero, suc}
use Rattle.wasm_types.specs.Syntax.{Instructions}
use Rattle.lower_model.specs.Places.{Bases, array_local, handle_local, iterator_local}
use Rattle.lower_model.specs.Small.{emptied, let_go}
use Rattle.host_imports.specs.declared.import.Import.{Import}
use Rattle.host_imports.specs.declared.import.Import.TheVariants.{Drop, FreeArray, IterFree}
use Rattle.lowering.specs.declared.holding.Held.{Held}
use Rattle.lowering.specs.declared.holding.Held.TheVariants.{Temporaries, Iterators, Arrays}

abbrev pub held_count : Held → Bases → ℕ
held_count Temporaries bases = bases.temporaries
held_count Iterators bases = bases.iterators
held_count Arrays bases = bases.arrays

abbrev pub held_local : Held → Bases → ℕ → ℕ
held_local Temporaries bases place = handle_local bases place
held_local Iterators bases place = iterator_local bases place
held_local Arrays bases place = array_local bases place

abbrev pub held_import : Held → Import
held_import Temporaries = Drop
held_import Iterators = IterFree
held_import Arrays = FreeArray

-- from this one on, so many
abbrev pub held_emptied : Held → Bases → ℕ → ℕ → Instructions → Instructions
held_emptied held bases place zero after = after
held_emptied held bases place (suc count) after = emptied (held_local held bases place) (held_emptied held bases (suc place) count after)

abbrev pub held_swept : Held → Bases → ℕ → ℕ → Instructions → Instructions
held_swept held bases place zero after = after
held_swept held bases place (suc count) after = let_go (held_import held) (held_local held bases place) (held_swept held bases (suc place) count after)
