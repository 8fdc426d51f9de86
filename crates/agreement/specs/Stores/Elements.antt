-- An array is a finite map from keys to values that remembers the order in which its keys were made.
use Rattle.std.specs.Prelude.{◌≡◌, ◌≢◌, ◌⊎◌, ℕ, List, [], ◌∷◌, ◌++◌, Some, None}
use Rattle.awk_values.specs.declared.value.Value.{Value}
use Rattle.sem_primitives.specs.SharedState.{Pairs}
use Rattle.sem_primitives.specs.ArrayMeaning.{element, keys}

-- a key has a value in an array
abbrev pub IsIn : List ℕ → Pairs → Type 0
IsIn key ps = (v : Value) × (element key ps ≡ Some v)

-- An element is stored: its key has the value, every other key has what it had, and a new key comes after the others.
pub record IsStored (key : List ℕ) (v : Value) (before after : Pairs) : Type 0 where
  pub itself : element key after ≡ Some v
  pub others : (other : List ℕ) → other ≢ key → element other after ≡ element other before
  pub order : (IsIn key before × (keys after ≡ keys before)) ⊎ ((IsIn key before → ⊥) × (keys after ≡ keys before ++ (key ∷ [])))

-- one list is another without some of its items
pub data IsSublist : List (List ℕ) → List (List ℕ) → Type 0 where
  empty : IsSublist [] []
  same : {key : List ℕ} {some all : List (List ℕ)} → IsSublist some all → IsSublist (key ∷ some) (key ∷ all)
  left_out : {key : List ℕ} {some all : List (List ℕ)} → IsSublist some all → IsSublist some (key ∷ all)

-- An element is deleted: its key has no value, every other key has what it had, and the order stays.
pub record IsDeleted (key : List ℕ) (before after : Pairs) : Type 0 where
  pub itself : element key after ≡ None
  pub others : (other : List ℕ) → other ≢ key → element other after ≡ element other before
  pub order : IsSublist (keys after) (keys before)
