-- Items with names, as they are listed with the places of their names.
use Rattle.std.specs.Prelude.{◌≡◌, ℕ, false, List, [], ◌∷◌, ◌++◌, length, Result, IsOkAnd}
use Rattle.std.specs.declared.alloc.AllocError.{AllocError}
use Rattle.awk_resolve.specs.Places.{place_of, ArePlaces}
use Rattle.awk_resolve.specs.declared.placed.Placed.{Placed}

-- one item more, with the place of its name
pub record Takes {T : Type 0} (old new : Placed T) (name : List ℕ) (item : Result T AllocError) : Type 0 where
  pub whole : old.is_refused ≡ false
  pub items : IsOkAnd item (λ x. new.items.items ≡ old.items.items ++ x ∷ [])
  pub places : (names : List (List ℕ)) → length names ≡ length old.items.items → ArePlaces old.places.entries (place_of names) → ArePlaces new.places.entries (place_of (names ++ name ∷ []))

-- one item more, unless memory was wanting
pub record Puts {T : Type 0} (old new : Placed T) (name : List ℕ) (item : Result T AllocError) : Type 0 where
  pub puts : new.is_refused ≡ false → Takes old new name item
