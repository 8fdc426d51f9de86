-- Notes of imports, by their numbers.
use Rattle.std.specs.Prelude.{◌≡◌, ◌≤◌, ℕ, zero, suc, Bool, ◌||◌, List, [], ◌∷◌, length, slice_index_or}
use Rattle.lower_model.specs.Modules.{new_number}

-- what was noted, and what is called as well
abbrev pub noted : (ℕ → Bool) → List Bool → List Bool
noted calls [] = []
noted calls (first ∷ rest) = (first || calls zero) ∷ noted (λ import. calls (suc import)) rest

-- the new numbers of the imports, and of the first function after them
pub record AreNewNumbers (called : List Bool) (numbers : List ℕ) : Type 0 where
  pub each : (number : ℕ) → number ≤ length called → slice_index_or numbers number 0 ≡ new_number called number
