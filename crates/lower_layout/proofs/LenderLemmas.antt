-- What lends at a place of parameters.
use Rattle.std.proofs.Common.{◌≡◌, ℕ, zero, suc, List, [], ◌∷◌, Option, None, get_or, refl}
use Rattle.mid_program.specs.Sorted.{lender_at}

pub lender_found : (lenders : List (Option ℕ)) (place : ℕ) → get_or lenders place None ≡ lender_at lenders place
lender_found [] place = refl
lender_found (lender ∷ lenders) zero = refl
lender_found (lender ∷ lenders) (suc place) = lender_found lenders place
