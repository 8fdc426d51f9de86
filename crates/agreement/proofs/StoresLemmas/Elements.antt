-- What storing and deleting make of an array is what a finite map has then.
use Rattle.std.proofs.Common.{◌≡◌, ◌≢◌, ◌⊎◌, inl, inr, ℕ, Bool, true, false, cond, not, List, [], ◌∷◌, ◌++◌, Option, Some, None, refl, sym, ap, ◌∙◌}
use Rattle.std.specs.Prelude.{if◌then◌else◌}
use Rattle.std.proofs.lemmas.Slice.Eq.{bytes_eq-Decides}
use Rattle.awk_values.specs.declared.value.Value.{Value}
use Rattle.sem_primitives.specs.SharedState.{Pairs}
use Rattle.sem_primitives.specs.Texts.{same_text}
use Rattle.sem_primitives.specs.ArrayMeaning.{element, keys, stored, without}
use Rattle.agreement.specs.Stores.Elements.{IsIn, IsStored, IsDeleted, IsSublist, empty, same, left_out}

same_is : (a b : List ℕ) → same_text a b ≡ true → a ≡ b
same_is a b e = (bytes_eq-Decides a b).0 e

itself : (a : List ℕ) → same_text a a ≡ true
itself a = (bytes_eq-Decides a a).1 refl

differs : (a b : List ℕ) → b ≢ a → same_text b a ≡ false
differs a b n = by (same_text b a) refl
  where
    by : (t : Bool) → same_text b a ≡ t → t ≡ false
    by true e = absurd (n (same_is b a e))
    by false e = refl

-- a key that is not the first one
abbrev looked : List ℕ → List ℕ × Value → Pairs → Bool → Option Value
looked key p ps t = if t then Some p.1 else element key ps

-- ---- stored

stored_itself : (key : List ℕ) (v : Value) (ps : Pairs) → element key (stored key v ps) ≡ Some v
stored_itself key v [] = ap (λ t. if t then Some v else None) (itself key)
stored_itself key v (p ∷ ps) = by (stored_itself key v ps) (same_text key p.0) refl
  where
    by : element key (stored key v ps) ≡ Some v → (t : Bool) → same_text key p.0 ≡ t → element key (if t then (key, v) ∷ ps else p ∷ stored key v ps) ≡ Some v
    by more true e = ap (looked key (key, v) ps) (itself key)
    by more false e = ap (looked key p (stored key v ps)) e ∙ more

stored_others : (key : List ℕ) (v : Value) (ps : Pairs) (other : List ℕ) → other ≢ key → element other (stored key v ps) ≡ element other ps
stored_others key v [] other n = ap (λ t. if t then Some v else None) (differs key other n)
stored_others key v (p ∷ ps) other n = by (stored_others key v ps other n) (same_text key p.0) refl
  where
    by : element other (stored key v ps) ≡ element other ps → (t : Bool) → same_text key p.0 ≡ t → element other (if t then (key, v) ∷ ps else p ∷ stored key v ps) ≡ element other (p ∷ ps)
    by more true e =
        ap (looked other (key, v) ps) (differs key other n)
        ∙ sym (ap (looked other p ps) (differs p.0 other (λ is. n (is ∙ sym (same_is key p.0 e)))))
    by more false e = ap (λ r. if same_text other p.0 then Some p.1 else r) more

abbrev IsOrdered : List ℕ → Pairs → Pairs → Type 0
IsOrdered key before after = (IsIn key before × (keys after ≡ keys before)) ⊎ ((IsIn key before → ⊥) × (keys after ≡ keys before ++ (key ∷ [])))

stored_order : (key : List ℕ) (v : Value) (ps : Pairs) → IsOrdered key ps (stored key v ps)
stored_order key v [] = inr ((λ there. cc there.1), refl)
stored_order key v (p ∷ ps) = by (same_text key p.0) refl (stored_order key v ps)
  where
    by : (t : Bool) → same_text key p.0 ≡ t → IsOrdered key ps (stored key v ps) → IsOrdered key (p ∷ ps) (if t then (key, v) ∷ ps else p ∷ stored key v ps)
    by true e h = inl ((p.1, ap (looked key p ps) e), ap (λ k. k ∷ keys ps) (same_is key p.0 e))
    by false e (inl h) = inl ((h.0.0, ap (looked key p ps) e ∙ h.0.1), ap (p.0 ∷◌) h.1)
    by false e (inr h) = inr ((λ there. h.0 (there.0, sym (ap (looked key p ps) e) ∙ there.1)), ap (p.0 ∷◌) h.1)

pub stores : (key : List ℕ) (v : Value) (ps : Pairs) → IsStored key v ps (stored key v ps)
stores key v ps = record { itself = stored_itself key v ps; others = stored_others key v ps; order = stored_order key v ps }

-- ---- deleted

deleted_itself : (key : List ℕ) (ps : Pairs) → element key (without key ps) ≡ None
deleted_itself key [] = refl
deleted_itself key (p ∷ ps) = by (deleted_itself key ps) (same_text key p.0) refl
  where
    by : element key (without key ps) ≡ None → (t : Bool) → same_text key p.0 ≡ t → element key (cond (not t) (p ∷ without key ps) (without key ps)) ≡ None
    by more true e = more
    by more false e = ap (looked key p (without key ps)) e ∙ more

deleted_others : (key : List ℕ) (ps : Pairs) (other : List ℕ) → other ≢ key → element other (without key ps) ≡ element other ps
deleted_others key [] other n = refl
deleted_others key (p ∷ ps) other n = by (deleted_others key ps other n) (same_text key p.0) refl
  where
    by : element other (without key ps) ≡ element other ps → (t : Bool) → same_text key p.0 ≡ t → element other (cond (not t) (p ∷ without key ps) (without key ps)) ≡ element other (p ∷ ps)
    by more true e = more ∙ sym (ap (looked other p ps) (differs p.0 other (λ is. n (is ∙ sym (same_is key p.0 e)))))
    by more false e = ap (λ r. if same_text other p.0 then Some p.1 else r) more

deleted_order : (key : List ℕ) (ps : Pairs) → IsSublist (keys (without key ps)) (keys ps)
deleted_order key [] = empty
deleted_order key (p ∷ ps) = by (same_text key p.0) (deleted_order key ps)
  where
    by : (t : Bool) → IsSublist (keys (without key ps)) (keys ps) → IsSublist (keys (cond (not t) (p ∷ without key ps) (without key ps))) (p.0 ∷ keys ps)
    by true h = left_out h
    by false h = same h

pub deletes : (key : List ℕ) (ps : Pairs) → IsDeleted key ps (without key ps)
deletes key ps = record { itself = deleted_itself key ps; others = deleted_others key ps; order = deleted_order key ps }
