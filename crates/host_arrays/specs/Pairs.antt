-- An array as the list of its pairs, in the order of insertion.
use Rattle.std.specs.Prelude.{◌==◌, ℕ, ℤ, pos, Bool, List, [], ◌∷◌, ◌++◌, Option, Some, None, filter, not}
use Rattle.std.specs.Cmp.Lexicographic.{pointwise}
use Rattle.std.specs.Ordering.{int_cmp}
use Rattle.std.specs.FinMap.{FinMap, empty, get, insert}
use Rattle.std.specs.Map.{lookup}
use Rattle.indexmap.specs.IndexMap.{insert_entry}
use Rattle.awk_values.specs.declared.value.Value.{Value}
use Rattle.awk_values.specs.declared.value.Value.TheVariants.{Uninit}

abbrev pub Pairs : Type 0
Pairs = List (List ℕ × Value)

-- whether two keys are the same
abbrev pub is_key : List ℕ → List ℕ → Bool
is_key = pointwise ◌==◌

-- the value at a key
abbrev pub get_pair : List ℕ → Pairs → Option Value
get_pair k pairs = lookup (is_key k) pairs

-- a key that is there keeps its place and takes the value; a new key goes last
abbrev pub set_pair : List ℕ → Value → Pairs → Pairs
set_pair k v pairs = insert_entry is_key pairs k v

-- the pairs of the other keys, in their order
abbrev pub delete_pair : List ℕ → Pairs → Pairs
delete_pair k pairs = filter (λ p. not (is_key k p.0)) pairs

-- what a read answers: a key without a pair is created uninitialised
abbrev pub value_or_uninit : Option Value → Value
value_or_uninit None = Uninit
value_or_uninit (Some v) = v

abbrev pub created_by : Option Value → List ℕ → Pairs → Pairs
created_by None k pairs = pairs ++ (k, Uninit) ∷ []
created_by (Some v) k pairs = pairs

-- the pairs after a read of the key
abbrev pub created : List ℕ → Pairs → Pairs
created k pairs = created_by (get_pair k pairs) k pairs

abbrev pub pairs_or_none : Option Pairs → Pairs
pairs_or_none None = []
pairs_or_none (Some pairs) = pairs

-- the pairs of the array of a number
abbrev pub pairs_at : FinMap int_cmp Pairs → ℤ → Pairs
pairs_at arrays a = pairs_or_none (get arrays a)

-- the arrays at the start: ARGV under 0 and ENVIRON under 1
abbrev pub first_arrays : FinMap int_cmp Pairs
first_arrays = insert (insert empty (pos 0) []) (pos 1) []
