-- What the tables show, and what words say over them, computed where a map is not asked.
use Rattle.std.specs.Prelude.{◌≡◌, pos, true, false, [], ◌∷◌, codes, Some, None, Ok, Err, refl}
use Rattle.std.specs.FinMap as map
use Rattle.wasm_store.specs.declared.trap.TrapKind.TheVariants.{BadHandle, BadArgument}
use Rattle.wasm_store.specs.declared.word.Word.TheVariants.{I32, I64}
use Rattle.host_values.specs.Forms.{Iterators, Shows}
use Rattle.host_values.specs.Reads.{known, only_number}
use Rattle.host_values.specs.Turns.{first_key, other_keys}

-- what a number's place has is what it holds; a number that holds nothing has no place
pub shown : Shows ([] ∷ codes "a" ∷ []) (Some 1) (Some (codes "a"))
shown = refl

-- no word, a wide word; a number that has an array, and one that has none
abbrev none : Iterators
none = map.empty

pub too_few : only_number none [] ≡ Err BadArgument
too_few = refl

pub wide : only_number none (I64 4 ∷ []) ≡ Err BadArgument
wide = refl

pub taken : known true (pos 4) (I32 2 ∷ []) ≡ Ok (pos 4, I32 2 ∷ [])
taken = refl

pub unknown : known false (pos 4) (I32 2 ∷ []) ≡ Err BadHandle
unknown = refl

-- one turn
pub turn : first_key (codes "b" ∷ codes "a" ∷ []) ≡ Some (codes "b")
turn = refl

pub others : other_keys (codes "b" ∷ codes "a" ∷ []) ≡ codes "a" ∷ []
others = refl

pub no_turn : first_key [] ≡ None
no_turn = refl
