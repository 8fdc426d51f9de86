-- Worked rows of places.
use Rattle.std.specs.Prelude.{◌≡◌, ℕ, codes, List, [], ◌∷◌, Some, None, refl}
use Rattle.awk_resolve.specs.Places.{place_of}

abbrev names : List (List ℕ)
names = codes "a" ∷ codes "x" ∷ codes "a" ∷ codes "h" ∷ []

pub second : place_of names (codes "x") ≡ Some 1
second = refl

-- of two of one name the first
pub first_of_two : place_of names (codes "a") ≡ Some 0
first_of_two = refl

-- a longer name is another
pub no_place : place_of names (codes "xx") ≡ None
no_place = refl

pub fourth : place_of names (codes "h") ≡ Some 3
fourth = refl
