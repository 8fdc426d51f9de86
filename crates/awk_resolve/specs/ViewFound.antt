-- A set of numbers as it grows: marks, and the numbers that wait for their pairs to be followed.
use Rattle.std.specs.Prelude.{◌≡◌, ℕ, ◌+◌, ◌≤◌, Bool, false, IsTrue, ◌⊎◌, List, All, length}
use Rattle.std.specs.List.{Contains}
use Rattle.awk_resolve.specs.Marked.{is_marked, unmarked}
use Rattle.awk_resolve.specs.declared.closure.Found.{Found}

abbrev pub IsIn : Found → ℕ → Type 0
IsIn found n = IsTrue (is_marked found.marked.items n)

-- how much is left to do at most
abbrev pub left : Found → ℕ
left found = unmarked found.marked.items + length found.waiting.items

-- Numbers are added: they are marked then and no others beside those that were, and what is newly marked waits, unless memory was wanting.
pub record Adds (numbers : List ℕ) (old new : Found) : Type 0 where
  pub size : length new.marked.items ≡ length old.marked.items
  pub has : All (IsIn new) numbers
  pub grows : (n : ℕ) → IsIn old n → IsIn new n
  pub within : (other : ℕ → Bool) → All (λ n. IsTrue (other n)) numbers → ((n : ℕ) → IsIn old n → IsTrue (other n)) → (n : ℕ) → IsIn new n → IsTrue (other n)
  pub whole : new.is_refused ≡ false → old.is_refused ≡ false
  pub waits : new.is_refused ≡ false → (n : ℕ) → IsIn new n → IsIn old n ⊎ Contains new.waiting.items n
  pub kept : (n : ℕ) → Contains old.waiting.items n → Contains new.waiting.items n
  pub marked : All (IsIn old) old.waiting.items → All (IsIn new) new.waiting.items
  pub less : left new ≤ left old
