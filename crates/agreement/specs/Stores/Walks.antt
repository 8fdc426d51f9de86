-- A walk over the keys of an array (POSIX.1-2017 awk, "Actions", the `for` over a name in an array).
use Rattle.std.specs.Prelude.{◌≡◌, ◌≢◌, ℕ, List, [], ◌∷◌, slice_get, Some, None}
use Rattle.awk_values.specs.declared.value.Value.TheVariants.{Text}
use Rattle.sem_primitives.specs.SharedState.{Inner}
use Rattle.sem_primitives.specs.Rows.{next_key_row}

abbrev pub NotAmong : List ℕ → List (List ℕ) → Type 0
NotAmong key [] = Unit {0}
NotAmong key (k ∷ ks) = (key ≢ k) × NotAmong key ks

-- no key comes twice
abbrev pub AreDistinct : List (List ℕ) → Type 0
AreDistinct [] = Unit {0}
AreDistinct (k ∷ ks) = NotAmong k ks × AreDistinct ks

-- whatever else changes, the iterator does not
abbrev pub IsKept : ℕ → Inner → Inner → Type 0
IsKept t before after = slice_get after.iterators t ≡ slice_get before.iterators t

-- what an iterator gives, call after call, up to its end
pub data Gives (t : ℕ) : Inner → List (List ℕ) → Type 0 where
  ends : {inner : Inner} → (next_key_row t inner).1 ≡ None → Gives t inner []
  next : {inner later : Inner} {key : List ℕ} {rest : List (List ℕ)} → (next_key_row t inner).1 ≡ Some (Text key)
      → IsKept t (next_key_row t inner).0 later → Gives t later rest → Gives t inner (key ∷ rest)
