-- Where no global lends its value.
use Rattle.std.proofs.Common.{◌≡◌, ℕ, zero, suc, ◌∷◌, List, Option, None, refl, ap}
use Rattle.std.specs.Prelude.{replicate}
use Rattle.mid_program.specs.Translation.{none_lend}

pub as_often : (n : ℕ) → replicate n None ≡ none_lend n
as_often zero = refl
as_often (suc n) = ap (λ (os : List (Option ℕ)). None ∷ os) (as_often n)
