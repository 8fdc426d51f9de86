-- How an array keeps its pairs: a map from keys to values, and the keys in order with holes between them.
use Rattle.std.specs.Prelude.{◌≡◌, ◌≢◌, ℕ, ◌<◌, List, [], ◌∷◌, Option, Some, None, get_or, slice_get, cond}
use Rattle.std.specs.Map.{lookup}
use Rattle.awk_values.specs.declared.value.Value.{Value}
use Rattle.awk_values.specs.declared.value.Value.TheVariants.{Uninit}
use Rattle.host_arrays.specs.Pairs.{Pairs, is_key}
use Rattle.host_arrays.specs.declared.array.Held.{Held}

abbrev pub Order : Type 0
Order = List (Option (List ℕ))

abbrev pub Holds : Type 0
Holds = List ℕ → Option Held

-- the map's entries, as a function of the key
abbrev pub held_in : List (List ℕ × Held) → Holds
held_in entries k = lookup (is_key k) entries

abbrev pub kept_value : Option Held → Option Value
kept_value None = None
kept_value (Some h) = Some h.value

abbrev pub place_in : Option Held → Option ℕ
place_in None = None
place_in (Some h) = Some h.place

abbrev pub value_in : Option Held → Value
value_in None = Uninit
value_in (Some h) = h.value

-- the keys of the order, each with its value
abbrev pub pairs_in : Holds → Order → Pairs
pairs_in held [] = []
pairs_in held (None ∷ rest) = pairs_in held rest
pairs_in held (Some k ∷ rest) = (k, value_in (held k)) ∷ pairs_in held rest

-- what is held stands in its place of the order, and what stands there is held
pub record IsPlaced (held : Holds) (order : Order) : Type 0 where
  pub stands : (k : List ℕ) (i : ℕ) → place_in (held k) ≡ Some i → get_or order i None ≡ Some k
  pub holds : (k : List ℕ) (i : ℕ) → get_or order i None ≡ Some k → place_in (held k) ≡ Some i

-- no key stands in two places
abbrev pub IsOnce : Order → Type 0
IsOnce order = (k : List ℕ) (i j : ℕ) → get_or order i None ≡ Some k → get_or order j None ≡ Some k → i ≡ j

abbrev pub SpecHeld : Type 0
SpecHeld = Held

-- the key stands at this place of the map's entries, and is held there
pub record StandsIn (entries : List (List ℕ × Held)) (place : ℕ) (k : List ℕ) : Type 0 where
  pub held : Held
  pub at : slice_get entries place ≡ Some (k, held)
  pub is : held_in entries k ≡ Some held

-- the second map has this at the key, and else what the first has
abbrev pub Changes : Holds → Holds → List ℕ → Option Held → Type 0
Changes old new k slot = (q : List ℕ) → new q ≡ cond (is_key k q) slot (old q)

-- the key stands in this place of the order, and in no other
abbrev pub StandsAt : Order → List ℕ → ℕ → Type 0
StandsAt order k i = (get_or order i None ≡ Some k) × ((j : ℕ) → get_or order j None ≡ Some k → j ≡ i)

-- the key stands nowhere in the order
abbrev pub IsApart : Order → List ℕ → Type 0
IsApart order k = (i : ℕ) → get_or order i None ≢ Some k

-- on the way through an order: each key keeps its value, and those before this place have theirs
pub record Renumbers (before now : Holds) (order : Order) (upto : ℕ) : Type 0 where
  pub values : (k : List ℕ) → kept_value (now k) ≡ kept_value (before k)
  pub places : (k : List ℕ) (i : ℕ) → i < upto → get_or order i None ≡ Some k → place_in (now k) ≡ Some i
