-- One turn of an iterator.
use Rattle.std.specs.Prelude.{ℕ, ℤ, List, [], ◌∷◌, Option, Some, None}
use Rattle.std.specs.FinMap as map
use Rattle.host_values.specs.Forms.{Iterators, Keys}

abbrev pub first_key : Keys → Option (List ℕ)
first_key [] = None
first_key (key ∷ rest) = Some key

abbrev pub other_keys : Keys → Keys
other_keys [] = []
other_keys (key ∷ rest) = rest

abbrev pub keys_or_none : Option Keys → Keys
keys_or_none None = []
keys_or_none (Some keys) = keys

-- the keys that the iterator of a number has left
abbrev pub keys_at : Iterators → ℤ → Keys
keys_at iterators t = keys_or_none (map.get iterators t)
