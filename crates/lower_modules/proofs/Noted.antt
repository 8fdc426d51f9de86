-- Notes of imports, one after the other.
use Rattle.std.proofs.Common.{◌≡◌, ℕ, zero, suc, ◌<◌, ◌≤◌, Bool, true, false, ◌||◌, List, [], ◌∷◌, length, set, nat_eq, refl, ap, ◌∙◌, arith}
use Rattle.std.proofs.Math.Bool.{or_assoc, or-false, or-true}
use Rattle.std.proofs.Math.Dec.{eqb-suc-suc, eqb-suc-zero, eqb-zero-suc}
use Rattle.lower_modules.specs.Calls.{noted}

pub noted_none : (bs : List Bool) → noted (λ i. false) bs ≡ bs
noted_none [] = refl
noted_none (b ∷ bs) = λ j. or-false b j ∷ noted_none bs j

pub noted_both : (f g : ℕ → Bool) (bs : List Bool) → noted g (noted f bs) ≡ noted (λ i. f i || g i) bs
noted_both f g [] = refl
noted_both f g (b ∷ bs) = λ j. or_assoc b (f zero) (g zero) j ∷ noted_both (λ i. f (suc i)) (λ i. g (suc i)) bs j

pub noted_one : (n : ℕ) (bs : List Bool) → n < length bs → noted (λ i. nat_eq i n) bs ≡ set bs n true
noted_one n [] h = absurd (omega arith)
noted_one zero (b ∷ bs) h =
    let rest : noted (λ i. nat_eq (suc i) zero) bs ≡ bs = (λ j. noted (λ i. eqb-suc-zero i j) bs) ∙ noted_none bs in
    λ j. or-true b j ∷ rest j
noted_one (suc n) (b ∷ bs) h =
    let first : (b || nat_eq zero (suc n)) ≡ b = ap (λ (c : Bool). b || c) (eqb-zero-suc n) ∙ or-false b in
    let rest : noted (λ i. nat_eq (suc i) (suc n)) bs ≡ set bs n true = (λ j. noted (λ i. eqb-suc-suc i n j) bs) ∙ noted_one n bs (omega arith) in
    λ j. first j ∷ rest j

pub noted_past : (n : ℕ) (bs : List Bool) → length bs ≤ n → noted (λ i. nat_eq i n) bs ≡ bs
noted_past n [] h = refl
noted_past zero (b ∷ bs) h = absurd (omega arith)
noted_past (suc n) (b ∷ bs) h =
    let first : (b || nat_eq zero (suc n)) ≡ b = ap (λ (c : Bool). b || c) (eqb-zero-suc n) ∙ or-false b in
    let rest : noted (λ i. nat_eq (suc i) (suc n)) bs ≡ bs = (λ j. noted (λ i. eqb-suc-suc i n j) bs) ∙ noted_past n bs (omega arith) in
    λ j. first j ∷ rest j
