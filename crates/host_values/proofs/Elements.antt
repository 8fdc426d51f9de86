-- Arrays of the definition beside those of the tables.
use Rattle.std.proofs.Common.{◌≡◌, ℕ, ℤ, Bool, true, false, cond, if◌then◌else◌, inl, inr, List, [], ◌∷◌, Some, None, refl, sym, ap, ◌∙◌, true≢false}
use Rattle.std.specs.Ordering.{int_cmp}
use Rattle.std.specs.FinMap as map
use Rattle.std.specs.FinMap.{FinMap}
use Rattle.awk_values.specs.declared.value.Value.{Value}
use Rattle.awk_values.specs.declared.value.Value.TheVariants.{Uninit}
use Rattle.sem_primitives.specs.ArrayMeaning.{element, stored}
use Rattle.host_arrays.specs.Pairs.{Pairs, created, created_by, get_pair, is_key, set_pair}
use Rattle.host_arrays.proofs.PairLemmas.{cases_key, set_pair-new}
use Rattle.host_values.proofs.Reading.{place_at, place_or_first}

pub element-get_pair : (k : List ℕ) (ps : Pairs) → element k ps ≡ get_pair k ps
element-get_pair k [] = refl
element-get_pair k (p ∷ ps) = by (element-get_pair k ps) (is_key k p.0)
  where
    by : element k ps ≡ get_pair k ps → (b : Bool) → (if b then Some p.1 else element k ps) ≡ cond b (Some p.1) (get_pair k ps)
    by same true = refl
    by same false = same

pub stored-set_pair : (k : List ℕ) (v : Value) (ps : Pairs) → stored k v ps ≡ set_pair k v ps
stored-set_pair k v [] = refl
stored-set_pair k v (p ∷ ps) = by (stored-set_pair k v ps) (is_key k p.0) refl
  where
    key_is : is_key k p.0 ≡ true → k ≡ p.0
    key_is e = elim (cases_key k p.0) [ inl same ↦ same | inr other ↦ absurd (true≢false (sym e ∙ other.0)) ]

    by : stored k v ps ≡ set_pair k v ps → (b : Bool) → is_key k p.0 ≡ b
        → (if b then (k, v) ∷ ps else p ∷ stored k v ps) ≡ (if b then (p.0, v) ∷ ps else p ∷ set_pair k v ps)
    by same true e = ap (λ (key : List ℕ). (key, v) ∷ ps) (key_is e)
    by same false e = ap (λ (rest : Pairs). p ∷ rest) same

-- the place of a number that has one
pub at_place : (places : FinMap int_cmp ℕ) (q : ℤ) (n : ℕ) → map.get places q ≡ Some n → place_at places q ≡ n
at_place places q n e = ap place_or_first e

-- a new element goes last
pub created_new : (k : List ℕ) (ps : Pairs) → get_pair k ps ≡ None → created k ps ≡ stored k Uninit ps
created_new k ps none = ap (λ o. created_by o k ps) none ∙ sym (set_pair-new k Uninit ps none) ∙ sym (stored-set_pair k Uninit ps)

pub created_old : (k : List ℕ) (ps : Pairs) (v : Value) → get_pair k ps ≡ Some v → created k ps ≡ ps
created_old k ps v some = ap (λ o. created_by o k ps) some
