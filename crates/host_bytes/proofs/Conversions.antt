-- Flags of conversions.
use Rattle.std.proofs.Common.{◌≡◌, ℕ, List, [], ◌∷◌, refl, ap, ◌∙◌, arith}
use Rattle.std.specs.Prelude.{◌==◌, ◌||◌}
use Rattle.std.specs.List.{list_any}
use Rattle.std.proofs.lemmas.Bool.Decides.{nat_tests}
use Rattle.sem_primitives.specs.Texts.{has}

same_test : (a b : ℕ) → (a == b) ≡ (b == a)
same_test a b = grind (arith, nat_tests)

pub has_any : (n : ℕ) (ms : List ℕ) → list_any (λ m. m == n) ms ≡ has n ms
has_any n [] = refl
has_any n (m ∷ ms) = ap (λ b. b || list_any (λ k. k == n) ms) (same_test m n) ∙ ap (λ b. (n == m) || b) (has_any n ms)
