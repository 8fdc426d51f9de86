-- Texts of where a script was.
use Rattle.std.proofs.Common.{◌≡◌, ◌++◌, ℕ, zero, suc, codes, decimal, refl}
use Rattle.run_report.specs.SubjectTexts.{rest_text}
use Rattle.run_report.specs.WhereTexts.{more_text}

pub more_is : (n : ℕ) → (n ≡ 0 → ⊥) → more_text n ≡ codes "  and " ++ (decimal n ++ codes " more calls\n")
more_is zero some = absurd (some refl)
more_is (suc n) some = refl

pub rest_is : (n : ℕ) → (n ≡ 0 → ⊥) → rest_text n ≡ codes " and " ++ (decimal n ++ codes " more bytes")
rest_is zero some = absurd (some refl)
rest_is (suc n) some = refl
