-- Keys stay distinct, and a walk gives those that there were.
use Rattle.std.proofs.Common.{◌≡◌, ◌≢◌, inl, inr, ℕ, zero, suc, Bool, true, false, List, [], ◌∷◌, ◌++◌, length, get_or, slice_get, slice_set, Option, Some, refl, sym, ap, subst, ◌∙◌}
use Rattle.std.specs.Prelude.{if◌then◌else◌}
use Rattle.std.proofs.lemmas.Slice.Eq.{bytes_eq-Decides}
use Rattle.awk_values.specs.declared.value.Value.{Value}
use Rattle.awk_values.specs.declared.value.Value.TheVariants.{Text}
use Rattle.sem_primitives.specs.SharedState.{Inner, Pairs}
use Rattle.sem_primitives.specs.Texts.{same_text}
use Rattle.sem_primitives.specs.ArrayMeaning.{array, element, keys, stored, visited, without}
use Rattle.sem_primitives.specs.Rows.{iterate_row, next_key_row}
use Rattle.agreement.specs.Stores.Elements.{IsIn, IsSublist, empty, same, left_out}
use Rattle.agreement.specs.Stores.Walks.{AreDistinct, Gives, ends, next, IsKept, NotAmong}
use Rattle.agreement.proofs.StoresLemmas.Elements.{deletes, stores}

-- ---- distinct keys

absent : (key : List ℕ) (ps : Pairs) → (IsIn key ps → ⊥) → NotAmong key (keys ps)
absent key [] h = tt
absent key (p ∷ ps) h = (λ e. h (p.1, ap found ((bytes_eq-Decides key p.0).1 e)), absent key ps (by (same_text key p.0) refl))
  where
    found : Bool → Option Value
    found t = if t then Some p.1 else element key ps

    by : (t : Bool) → same_text key p.0 ≡ t → IsIn key ps → ⊥
    by true e there = h (p.1, ap (λ b. if b then Some p.1 else element key ps) e)
    by false e there = h (there.0, ap (λ b. if b then Some p.1 else element key ps) e ∙ there.1)

not_last : (k key : List ℕ) (ks : List (List ℕ)) → k ≢ key → NotAmong k ks → NotAmong k (ks ++ (key ∷ []))
not_last k key [] n h = (n, tt)
not_last k key (x ∷ xs) n h = (h.0, not_last k key xs n h.1)

one_more : (key : List ℕ) (ks : List (List ℕ)) → NotAmong key ks → AreDistinct ks → AreDistinct (ks ++ (key ∷ []))
one_more key [] n h = (tt, tt)
one_more key (k ∷ ks) n h = (not_last k key ks (λ e. n.0 (sym e)) h.0, one_more key ks n.1 h.1)

pub stored_distinct : (key : List ℕ) (v : Value) (ps : Pairs) → AreDistinct (keys ps) → AreDistinct (keys (stored key v ps))
stored_distinct key v ps h = elim (stores key v ps).order [
  | inl o ↦ subst AreDistinct (sym o.1) h
  | inr o ↦ subst AreDistinct (sym o.1) (one_more key (keys ps) (absent key ps o.0) h)
]

fewer : {some all : List (List ℕ)} (key : List ℕ) → IsSublist some all → NotAmong key all → NotAmong key some
fewer key empty n = tt
fewer key (same s) n = (n.0, fewer key s n.1)
fewer key (left_out s) n = fewer key s n.1

sublist : {some all : List (List ℕ)} → IsSublist some all → AreDistinct all → AreDistinct some
sublist empty h = tt
sublist (same {key = key} s) h = (fewer key s h.0, sublist s h.1)
sublist (left_out s) h = sublist s h.1

pub deleted_distinct : (key : List ℕ) (ps : Pairs) → AreDistinct (keys ps) → AreDistinct (keys (without key ps))
deleted_distinct key ps h = sublist (deletes key ps).order h

-- ---- walks

read : (its : List (List (List ℕ))) (t : ℕ) (ks : List (List ℕ)) → slice_get its t ≡ Some ks → get_or its t [] ≡ ks
read [] t ks e = absurd (cc)
read (x ∷ xs) zero ks e = cc
read (x ∷ xs) (suc t) ks e = read xs t ks e

written : (its : List (List (List ℕ))) (t : ℕ) (ks rest : List (List ℕ)) → slice_get its t ≡ Some ks → slice_get (slice_set its t rest) t ≡ Some rest
written [] t ks rest e = absurd (cc)
written (x ∷ xs) zero ks rest e = refl
written (x ∷ xs) (suc t) ks rest e = written xs t ks rest e

pushed : (its : List (List (List ℕ))) (ks : List (List ℕ)) → slice_get (its ++ (ks ∷ [])) (length its) ≡ Some ks
pushed [] ks = refl
pushed (x ∷ xs) ks = pushed xs ks

given : {t : ℕ} {inner : Inner} {all : List (List ℕ)} → Gives t inner all → (ks : List (List ℕ)) → slice_get inner.iterators t ≡ Some ks → all ≡ ks
given {t = t} (ends {inner = inner} e) [] r = refl
given {t = t} (ends {inner = inner} e) (k ∷ ks) r =
    let f = ap (λ xs. (visited t inner xs).1) (read inner.iterators t (k ∷ ks) r) in absurd (cc)
given {t = t} (next {inner = inner} e kept more) [] r =
    let f = ap (λ xs. (visited t inner xs).1) (read inner.iterators t [] r) in absurd (cc)
given {t = t} (next {inner = inner} {later = later} {key = key} {rest = rest} e kept more) (k ∷ ks) r =
    let shown : next_key_row t inner ≡ visited t inner (k ∷ ks) = ap (visited t inner) (read inner.iterators t (k ∷ ks) r) in
    let f : Some (Text k) ≡ Some (Text key) = sym (ap (λ x. x.1) shown) ∙ e in
    let same_key : key ≡ k = cc in
    let left : slice_get later.iterators t ≡ Some ks
    = kept ∙ (ap (λ (x : Inner × Option Value). slice_get x.0.iterators t) shown ∙ written inner.iterators t (k ∷ ks) ks r) in
    ap (λ x. x ∷ rest) same_key ∙ ap (k ∷◌) (given more ks left)

pub walked : (a : ℕ) (inner later : Inner) (all : List (List ℕ)) → IsKept (iterate_row a inner).1 (iterate_row a inner).0 later
    → Gives (iterate_row a inner).1 later all → all ≡ keys (array a inner)
walked a inner later all kept g = given g (keys (array a inner)) (kept ∙ pushed inner.iterators (keys (array a inner)))
