-- Whether a name is one of a list.
use Rattle.std.specs.Prelude.{ℕ, ◌==◌, List, Bool}
use Rattle.std.specs.Borrow.{Bor}
use Rattle.std.specs.List.{list_any}
use Rattle.std.specs.List.Sorted.{IsSorted}
use Rattle.std.specs.Ordering.{nat_cmp}
use Rattle.std.specs.Cmp.Lexicographic.{pointwise, slice_cmp}

-- a name is one of these
abbrev pub is_one_of : List (List ℕ) → List ℕ → Bool
is_one_of names name = list_any (λ n. pointwise ◌==◌ n name) names

-- The rest leads from the code's values to this.

abbrev pub is_one_borrowed : List (Bor (List ℕ)) → List ℕ → Bool
is_one_borrowed names name = list_any (λ n. pointwise ◌==◌ n.now name) names

-- in the order of their bytes
abbrev pub IsInOrder : List (Bor (List ℕ)) → Type 0
IsInOrder names = IsSorted (λ a b. slice_cmp nat_cmp a.now b.now) names
