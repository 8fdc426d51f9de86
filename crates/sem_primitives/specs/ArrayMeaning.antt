-- What primitives on arrays mean (POSIX.1-2017 awk, "Expressions in awk", arrays).
use Rattle.std.specs.Prelude.{ℕ, ◌+◌, not, if◌then◌else◌, List, [], ◌∷◌, map, get_or, slice_set, filter, Option, Some, None, decimal}
use Rattle.awk_values.specs.declared.value.Value.{Value}
use Rattle.awk_values.specs.declared.value.Value.TheVariants.{Uninit, Text, StrNum}
use Rattle.sem_primitives.specs.SharedState.{Pairs, Inner}
use Rattle.sem_primitives.specs.Texts.{same_text}

abbrev pub element : List ℕ → Pairs → Option Value
element key [] = None
element key (p ∷ ps) = if same_text key p.0 then Some p.1 else element key ps

-- an element takes a value where it is, or stands behind the others
abbrev pub stored : List ℕ → Value → Pairs → Pairs
stored key v [] = (key, v) ∷ []
stored key v (p ∷ ps) = if same_text key p.0 then (key, v) ∷ ps else p ∷ stored key v ps

abbrev pub without : List ℕ → Pairs → Pairs
without key ps = filter (λ p. not (same_text key p.0)) ps

abbrev pub keys : Pairs → List (List ℕ)
keys ps = map (λ p. p.0) ps

-- the pieces of a text as elements, by their numbers from n on
abbrev pub numbered : ℕ → List (List ℕ) → Pairs
numbered n [] = []
numbered n (text ∷ texts) = (decimal n, StrNum text) ∷ numbered (n + 1) texts

abbrev pub array : ℕ → Inner → Pairs
array a inner = get_or inner.arrays a []

abbrev pub with_array : ℕ → Pairs → Inner → Inner
with_array a ps inner = record inner { arrays = slice_set inner.arrays a ps }

-- an element that is not there is made, and has no value
abbrev pub found : ℕ → List ℕ → Inner → Option Value → Inner × Value
found a key inner (Some v) = (inner, v)
found a key inner None = (with_array a (stored key Uninit (array a inner)) inner, Uninit)

abbrev pub visited : ℕ → Inner → List (List ℕ) → Inner × Option Value
visited t inner [] = (inner, None)
visited t inner (key ∷ rest) = (record inner { iterators = slice_set inner.iterators t rest }, Some (Text key))
