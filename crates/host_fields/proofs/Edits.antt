-- Fields that are added and cut, and the record that is made anew.
use Rattle.std.proofs.Common.{◌≡◌, ◌⊎◌, inl, inr, ℕ, ◌+◌, ◌-◌, ◌≤◌, List, [], ◌∷◌, ◌++◌, length, take, replicate, refl, sym, ap, ◌∙◌, arith}
use Rattle.std.specs.List.{AllClonesOf}
use Rattle.std.proofs.lemmas.List.{length-append, take_all}
use Rattle.awk_values.specs.contracts.value.ValueClone.TheImpl.{by_variants}
use Rattle.awk_values.specs.declared.value.Value.{Value}
use Rattle.awk_values.specs.declared.value.Value.TheVariants.{Num, StrNum, Text, Uninit}
use Rattle.sem_primitives.specs.FieldMeaning.{at_least}

uninit_clone : (y : Value) → (y ≡ Uninit) ⊎ by_variants Uninit y → y ≡ Uninit
uninit_clone Uninit c = refl
uninit_clone (Num n) c = elim c [ inl e ↦ e | inr h ↦ absurd h ]
uninit_clone (Text t) c = elim c [ inl e ↦ e | inr h ↦ absurd h ]
uninit_clone (StrNum t) c = elim c [ inl e ↦ e | inr h ↦ absurd h ]

all_uninit : (ys : List Value) → AllClonesOf by_variants Uninit ys → ys ≡ replicate (length ys) Uninit
all_uninit [] a = refl
all_uninit (y ∷ ys) a = ap (λ z. z ∷ ys) (uninit_clone y a.0) ∙ ap (λ zs. Uninit ∷ zs) (all_uninit ys a.1)

-- fields without a value are added
pub extended : (count : ℕ) (old new added : List Value) → length old ≤ count → new ≡ take count old ++ added → AllClonesOf by_variants Uninit added → length new ≡ count → new ≡ at_least count old
extended count old new added few is all size =
    let same : new ≡ old ++ added = is ∙ ap (λ vs. vs ++ added) (take_all count old few) in
    let long : length old + length added ≡ count = sym (length-append old added) ∙ ap length (sym same) ∙ size in
    let left : length added ≡ count - length old = omega (arith, long) in
    same ∙ ap (λ vs. old ++ vs) (all_uninit added all ∙ ap (λ n. replicate n Uninit) left)
