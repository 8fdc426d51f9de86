-- The least set that has given members and follows given pairs, computed. `IsLeast` of Least says which it is.
use Rattle.std.specs.Prelude.{Bool, ◌||◌, ◌&&◌, List, [], ◌∷◌}
use Rattle.std.specs.List.{list_any}

module _ {A : Type 0} (same : A → A → Bool) where
  -- whether a way of pairs leads from x to y: without the first pair, or through it
  abbrev pub leads : List (A × A) → A → A → Bool
  leads [] x y = same x y
  leads (p ∷ ps) x y = leads ps x y || (leads ps x p.0 && leads ps p.1 y)

  -- the least set, computed: what a way leads from to a member
  abbrev pub least : List A → List (A × A) → A → Bool
  least members pairs x = list_any (leads pairs x) members
