-- A key, by where its bytes are.
use Rattle.std.specs.Prelude.{ℕ, List, [], ◌∷◌, ◌++◌, Option, Some, None}
use Rattle.host_arrays.specs.declared.key.Place.{Place}
use Rattle.host_arrays.specs.declared.key.Place.TheVariants.{Here, Shared}

abbrev pub bytes_of : Place → List ℕ
bytes_of (Here bytes) = bytes
bytes_of (Shared text) = text

-- the keys of an order, one after the other
abbrev pub joined : List (Option (List ℕ)) → List ℕ
joined [] = []
joined (None ∷ rest) = joined rest
joined (Some k ∷ rest) = k ++ joined rest
