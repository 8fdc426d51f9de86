-- The pairs of entries, and of one more.
use Rattle.std.proofs.Common.{◌≡◌, ◌∙◌, ◌++◌, ℕ, List, [], ◌∷◌, Option, option_to_list, ap, refl, subst, sym, append-nil, append_assoc}
use Rattle.task_pages.specs.Environment.{ArePairsIn, IsPairIn}

pairs_then : (entries : List (List ℕ)) (pairs : List (List ℕ × List ℕ)) (entry : List ℕ) (found : Option (List ℕ × List ℕ)) → ArePairsIn entries pairs
    → IsPairIn entry found → ArePairsIn (entries ++ entry ∷ []) (pairs ++ option_to_list found)
pairs_then [] pairs entry found are is =
    (found, [], is, ap (λ (ps : List (List ℕ × List ℕ)). ps ++ option_to_list found) are ∙ sym (append-nil (option_to_list found)), refl)
pairs_then (first ∷ entries) pairs entry found are is = (
  are.0,
  are.1 ++ option_to_list found,
  are.2,
  ap (λ (ps : List (List ℕ × List ℕ)). ps ++ option_to_list found) are.3 ∙ append_assoc (option_to_list are.0) are.1 (option_to_list found),
  pairs_then entries are.1 entry found are.4 is,
)

pub pairs_next : (entries next : List (List ℕ)) (entry : List ℕ) (pairs after : List (List ℕ × List ℕ)) (found : Option (List ℕ × List ℕ))
    → next ≡ entries ++ entry ∷ [] → after ≡ pairs ++ option_to_list found → ArePairsIn entries pairs → IsPairIn entry found → ArePairsIn next after
pairs_next entries next entry pairs after found more pushed are is =
    subst (λ (es : List (List ℕ)). ArePairsIn es after) (sym more)
    (subst (λ (ps : List (List ℕ × List ℕ)). ArePairsIn (entries ++ entry ∷ []) ps) (sym pushed) (pairs_then entries pairs entry found are is))
