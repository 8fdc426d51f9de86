-- The new numbers of functions, one after the other.
use Rattle.std.proofs.Common.{◌≡◌, ℕ, zero, suc, ◌+◌, ◌≤◌, ◌<◌, Bool, true, false, List, [], ◌∷◌, length, get_or, refl, ap, ◌∙◌, arith}
use Rattle.std.proofs.lemmas.Bool.{false≢true, true≢false}
use Rattle.lower_model.specs.Modules.{new_number}

pub number_first : (bs : List Bool) → new_number bs 0 ≡ 0
number_first [] = refl
number_first (b ∷ bs) = refl

pub number_in : (bs : List Bool) (n : ℕ) → n < length bs → get_or bs n false ≡ true → new_number bs (suc n) ≡ suc (new_number bs n)
number_in [] n h e = absurd (omega (arith, h))
number_in (true ∷ bs) zero h e = ap suc (number_first bs)
number_in (false ∷ bs) zero h e = absurd (false≢true e)
number_in (true ∷ bs) (suc n) h e = ap suc (number_in bs n (omega (arith, h)) e)
number_in (false ∷ bs) (suc n) h e = number_in bs n (omega (arith, h)) e

pub number_out : (bs : List Bool) (n : ℕ) → n < length bs → get_or bs n false ≡ false → new_number bs (suc n) ≡ new_number bs n
number_out [] n h e = absurd (omega (arith, h))
number_out (true ∷ bs) zero h e = absurd (true≢false e)
number_out (false ∷ bs) zero h e = number_first bs
number_out (true ∷ bs) (suc n) h e = ap suc (number_out bs n (omega (arith, h)) e)
number_out (false ∷ bs) (suc n) h e = number_out bs n (omega (arith, h)) e

-- a function after the imports keeps its distance from them
pub number_past : (bs : List Bool) (k : ℕ) → new_number bs (length bs + k) ≡ new_number bs (length bs) + k
number_past [] k = refl
number_past (true ∷ bs) k =
    let more : length (true ∷ bs) + k ≡ suc (length bs + k) = omega arith in
    let all = number_past bs k in
    let next : suc (new_number bs (length bs + k)) ≡ suc (new_number bs (length bs)) + k = omega (arith, all) in
    ap (new_number (true ∷ bs)) more ∙ next
number_past (false ∷ bs) k =
    let more : length (false ∷ bs) + k ≡ suc (length bs + k) = omega arith in
    ap (new_number (false ∷ bs)) more ∙ number_past bs k

pub number_small : (bs : List Bool) (n : ℕ) → new_number bs n ≤ n
number_small [] n = omega arith
number_small (b ∷ bs) zero = omega arith
number_small (true ∷ bs) (suc n) = let h = number_small bs n in omega (arith, h)
number_small (false ∷ bs) (suc n) = let h = number_small bs n in omega (arith, h)
