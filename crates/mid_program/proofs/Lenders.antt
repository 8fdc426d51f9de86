-- Which globals lend their values; where none does.
use Rattle.std.proofs.Common.{◌≡◌, ◌⊎◌, inl, inr, ℕ, zero, suc, Bool, true, false, ◌||◌, List, [], ◌∷◌, Option, Some, None, refl, sym, ap, ◌∙◌, subst, true≢false}
use Rattle.std.proofs.lemmas.Bool.{and_parts, eq-eqb, eqb-true}
use Rattle.std.specs.Prelude.{nat_eq}
use Rattle.mid_program.specs.Mid.{Kind, Boxed, Unboxed, ArrayKind}
use Rattle.mid_program.specs.Sorted.{has_kind, lender_at, is_lender, lends, has_lender, are_lenders}
use Rattle.mid_program.specs.Translation.{none_lend}

pub none_lend_has_none : (n : ℕ) → has_lender (none_lend n) ≡ false
none_lend_has_none zero = refl
none_lend_has_none (suc n) = none_lend_has_none n

pub no_lender_at : (ls : List (Option ℕ)) → has_lender ls ≡ false → (i : ℕ) → lender_at ls i ≡ None
no_lender_at [] h i = refl
no_lender_at (None ∷ ls) h zero = refl
no_lender_at (None ∷ ls) h (suc i) = no_lender_at ls h i
no_lender_at (Some g ∷ ls) h i = cc

pub none_lends : (ls : List (Option ℕ)) → has_lender ls ≡ false → (g : ℕ) → lends ls g ≡ false
none_lends [] h g = refl
none_lends (None ∷ ls) h g = none_lends ls h g
none_lends (Some i ∷ ls) h g = cc

pub no_lenders : (ks : List Kind) (ls : List (Option ℕ)) → has_lender ls ≡ false → are_lenders ks ls ≡ true
no_lenders ks [] h = refl
no_lenders ks (None ∷ ls) h = no_lenders ks ls h
no_lenders ks (Some g ∷ ls) h = cc

-- what lends at a place lends, and is unboxed

or_false : (a b : Bool) → (a || b) ≡ false → (a ≡ false) × (b ≡ false)
or_false false b h = (refl, h)
or_false true b h = cc

pub not_lender : (ls : List (Option ℕ)) (j g : ℕ) → lends ls g ≡ false → lender_at ls j ≡ Some g → ⊥
not_lender [] j g h e = cc
not_lender (o ∷ ls) zero g h e =
    let here : is_lender g o ≡ true = ap (is_lender g) e ∙ eq-eqb g g refl in
    true≢false (sym here ∙ (or_false (is_lender g o) (lends ls g) h).0)
not_lender (o ∷ ls) (suc j) g h e = not_lender ls j g (or_false (is_lender g o) (lends ls g) h).1 e

pub lender_unboxed : (ks : List Kind) (ls : List (Option ℕ)) (j g : ℕ) → are_lenders ks ls ≡ true → lender_at ls j ≡ Some g → has_kind ks g Unboxed ≡ true
lender_unboxed ks [] j g h e = cc
lender_unboxed ks (None ∷ ls) zero g h e = cc
lender_unboxed ks (None ∷ ls) (suc j) g h e = lender_unboxed ks ls j g h e
lender_unboxed ks (Some i ∷ ls) zero g h e = subst (λ (o : Option ℕ). is_unboxed_in ks o ≡ true) e (and_parts (has_kind ks i Unboxed) (are_lenders ks ls) h).0
  where
    is_unboxed_in : List Kind → Option ℕ → Bool
    is_unboxed_in js None = false
    is_unboxed_in js (Some x) = has_kind js x Unboxed
lender_unboxed ks (Some i ∷ ls) (suc j) g h e = lender_unboxed ks ls j g (and_parts (has_kind ks i Unboxed) (are_lenders ks ls) h).1 e

kind_once : (ks : List Kind) (i : ℕ) → has_kind ks i Boxed ≡ true → has_kind ks i Unboxed ≡ true → ⊥
kind_once [] i h k = cc
kind_once (Boxed ∷ ks) zero h k = cc
kind_once (Unboxed ∷ ks) zero h k = cc
kind_once (ArrayKind ∷ ks) zero h k = cc
kind_once (j ∷ ks) (suc i) h k = kind_once ks i h k

-- what is boxed lends nothing
pub boxed_lends : (ks : List Kind) (ls : List (Option ℕ)) (i : ℕ) → are_lenders ks ls ≡ true → has_kind ks i Boxed ≡ true → lends ls i ≡ false
boxed_lends ks [] i h k = refl
boxed_lends ks (None ∷ ls) i h k = boxed_lends ks ls i h k
boxed_lends ks (Some g ∷ ls) i h k = by (boxed_lends ks ls i both.1 k) (nat_eq i g) refl
  where
    both : (has_kind ks g Unboxed ≡ true) × (are_lenders ks ls ≡ true)
    both = and_parts (has_kind ks g Unboxed) (are_lenders ks ls) h

    by : lends ls i ≡ false → (t : Bool) → nat_eq i g ≡ t → (nat_eq i g || lends ls i) ≡ false
    by rest true e = absurd (kind_once ks g (ap (λ j. has_kind ks j Boxed) (sym (eqb-true i g e)) ∙ k) both.0)
    by rest false e = ap (λ t. t || lends ls i) e ∙ rest
