-- Which of the names are arrays.
use Rattle.std.proofs.Common.{◌≡◌, ℕ, zero, suc, ◌+◌, ◌≤◌, List, [], ◌∷◌, length, get_or, refl, ap, ◌∙◌, arith}
use Rattle.mid_program.specs.Mid.{Kind, Boxed, ArrayKind, Unboxed}
use Rattle.lower_model.specs.Places.{array_name}
use Rattle.lower_layout.specs.Spans.{arrays_from}

-- one name more
name_after : (n : ℕ) (arrays : List ℕ) (i most name : ℕ) → get_or arrays i (suc n + most) ≡ suc n + name → get_or arrays i (n + suc most) ≡ n + suc name
name_after n arrays i most name is =
    let more : n + suc most ≡ suc n + most = omega arith in
    ap (λ (d : ℕ). get_or arrays i d) more ∙ is ∙ omega arith

name_from : (n : ℕ) (ks : List Kind) (i : ℕ) → get_or (arrays_from n ks) i (n + length ks) ≡ n + array_name ks i
name_from n [] i = refl
name_from n (ArrayKind ∷ ks) zero = omega arith
name_from n (ArrayKind ∷ ks) (suc i) = name_after n (arrays_from (suc n) ks) i (length ks) (array_name ks i) (name_from (suc n) ks i)
name_from n (Boxed ∷ ks) i = name_after n (arrays_from (suc n) ks) i (length ks) (array_name ks i) (name_from (suc n) ks i)
name_from n (Unboxed ∷ ks) i = name_after n (arrays_from (suc n) ks) i (length ks) (array_name ks i) (name_from (suc n) ks i)

-- the place of an array, or that after all names
pub name_found : (ks : List Kind) (i : ℕ) → get_or (arrays_from 0 ks) i (length ks) ≡ array_name ks i
name_found ks i =
    let whole : length ks ≡ 0 + length ks = omega arith in
    ap (λ (d : ℕ). get_or (arrays_from 0 ks) i d) whole ∙ name_from 0 ks i ∙ omega arith

pub name_within : (ks : List Kind) (i : ℕ) → array_name ks i ≤ length ks
name_within [] i = omega arith
name_within (ArrayKind ∷ ks) zero = omega arith
name_within (ArrayKind ∷ ks) (suc i) = let few = name_within ks i in omega (arith, few)
name_within (Boxed ∷ ks) i = let few = name_within ks i in omega (arith, few)
name_within (Unboxed ∷ ks) i = let few = name_within ks i in omega (arith, few)
