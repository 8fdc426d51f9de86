-- Names in order: what a search finds, and that it is what the list has.
use Rattle.std.proofs.Common.{◌≡◌, ◌∙◌, ℕ, ◌==◌, List, [], ◌∷◌, length, get_or, map, ◌||◌, Bool, true, false, Bor, Result, Ok, Err, inl, inr, Less, Equal, Greater, Ordering, refl, sym, ap, arith}
use Rattle.std.specs.Prelude.{is_ok}
use Rattle.std.specs.List.Sorted.{IsBinarySearchResult, IsNonDecreasingBy, IsSearchInRange}
use Rattle.std.specs.Ordering.{is_eq, nat_cmp, ordering_index}
use Rattle.std.specs.Cmp.Lexicographic.{pointwise, slice_cmp}
use Rattle.std.proofs.lemmas.Bool.{cases_lt}
use Rattle.std.proofs.lemmas.Cmp.{nat_list_cmp_total}
use Rattle.std.proofs.lemmas.List.Folds.{list_any_at, list_any_none}
use Rattle.std.proofs.lemmas.List.Sorted.{searchable_from_sorted}
use Rattle.std.proofs.lemmas.Map.Text.{is_eq-slice_cmp}
use Rattle.world_os.specs.Named.{IsInOrder, is_one_borrowed, is_one_of}

pub one_of_borrowed : (names : List (Bor (List ℕ))) (name : List ℕ) → is_one_borrowed names name ≡ is_one_of (map (λ n. n.now) names) name
one_of_borrowed [] name = refl
one_of_borrowed (n ∷ names) name = ap (λ b. pointwise ◌==◌ n.now name || b) (one_of_borrowed names name)

is_the_name : (n : Bor (List ℕ)) (name : List ℕ) → slice_cmp nat_cmp n.now name ≡ Equal → pointwise ◌==◌ n.now name ≡ true
is_the_name n name equal = sym (is_eq-slice_cmp n.now name) ∙ ap is_eq equal

is_another : (n : Bor (List ℕ)) (name : List ℕ) (o : Ordering) → is_eq o ≡ false → slice_cmp nat_cmp n.now name ≡ o → pointwise ◌==◌ n.now name ≡ false
is_another n name o other e = sym (is_eq-slice_cmp n.now name) ∙ ap is_eq e ∙ other

rising : (names : List (Bor (List ℕ))) (name : List ℕ) → IsInOrder names → IsNonDecreasingBy (λ n. ordering_index (slice_cmp nat_cmp n.now name)) names
rising names name sorted = searchable_from_sorted nat_list_cmp_total (λ (n : Bor (List ℕ)). n.now) names name sorted

-- what a search in names that are in order answers tells whether the name is there
pub found : (names : List (Bor (List ℕ))) (name : List ℕ) (r : Result ℕ ℕ) → IsInOrder names → IsSearchInRange r (length names) →
    IsBinarySearchResult (λ n. slice_cmp nat_cmp n.now name) names r → is_ok r ≡ is_one_borrowed names name
found [] name (Ok at) sorted in_range equal = absurd (omega (arith, in_range))
found (n ∷ names) name (Ok at) sorted in_range equal =
    let is_name : Bor (List ℕ) → Bool = λ x. pointwise ◌==◌ x.now name in
    sym (list_any_at is_name (n ∷ names) at n in_range (is_the_name (get_or (n ∷ names) at n) name (equal n)))
found names name (Err at) sorted in_range parted =
    let parts = parted (rising names name sorted) in
    let is_name : Bor (List ℕ) → Bool = λ x. pointwise ◌==◌ x.now name in
    sym (list_any_none is_name names (λ k d inside. elim (cases_lt k at) [
      | inl below ↦ is_another (get_or names k d) name Less refl (parts.0 k d (omega arith) below)
      | inr above ↦ is_another (get_or names k d) name Greater refl (parts.1 k d above inside)
    ]))
