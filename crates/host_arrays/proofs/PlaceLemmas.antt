-- That what is held stands in its place: what it says of the pairs, and how it is kept.
use Rattle.std.proofs.Common.{◌≡◌, ◌≢◌, ℕ, zero, suc, ◌+◌, ◌-◌, ◌<◌, ◌≤◌, List, [], ◌∷◌, ◌++◌, length, Option, Some, None, is_some, IsSome, get_or, set, filter, map, slice_get, refl, sym, ap, ◌∙◌, arith, inl, inr, get_or-set_other, get_or-set_same}
use Rattle.std.proofs.lemmas.Bool.{cases_lt, cases_eq}
use Rattle.std.proofs.lemmas.List.{get_or_append_left, get_or-append_right, get_or_past, get_or_push}
use Rattle.std.proofs.lemmas.Option.{none-some, same_Some}
use Rattle.host_arrays.specs.Pairs.{get_pair, value_or_uninit}
use Rattle.host_arrays.specs.declared.array.Held.{Held}
use Rattle.host_arrays.specs.Order.{Order, Holds, Changes, StandsAt, IsApart, IsOnce, IsPlaced, Renumbers, kept_value, place_in, value_in, pairs_in}
use Rattle.host_arrays.proofs.PairLemmas.{cases_key, changed, unchanged, get_pair-apart, get_pair-there}

pub once_placed : (held : Holds) (order : Order) → IsPlaced held order → IsOnce order
once_placed held order p k i j here there = same_Some i j (sym (p.holds k i here) ∙ p.holds k j there)

pub stands_at : (held : Holds) (order : Order) (k : List ℕ) (h : Held) → held k ≡ Some h → IsPlaced held order → StandsAt order k h.place
stands_at held order k h at p =
    let here = p.stands k h.place (ap place_in at) in
    (here, λ j there. once_placed held order p k j h.place there here)

pub apart_from_none : (held : Holds) (order : Order) (k : List ℕ) → held k ≡ None → IsPlaced held order → IsApart order k
apart_from_none held order k none p i here = none-some i (sym (ap place_in none) ∙ p.holds k i here)

-- what the pairs have at a key is what the map holds there
pub get_pair-placed : (held : Holds) (order : Order) (k : List ℕ) → IsPlaced held order → get_pair k (pairs_in held order) ≡ kept_value (held k)
get_pair-placed held order k p = by (held k) refl
  where
    by : (o : Option Held) → held k ≡ o → get_pair k (pairs_in held order) ≡ kept_value (held k)
    by None e = get_pair-apart held order k (apart_from_none held order k e p) ∙ sym (ap kept_value e)
    by (Some h) e = get_pair-there held order k h.place (stands_at held order k h e p).0 ∙ ap (λ o. Some (value_in o)) e ∙ sym (ap kept_value e)

pub is_some-kept : (slot : Option Held) → is_some (kept_value slot) ≡ is_some slot
is_some-kept None = refl
is_some-kept (Some h) = refl

pub none_held : (held : Holds) (order : Order) (k : List ℕ) → IsPlaced held order → get_pair k (pairs_in held order) ≡ None → held k ≡ None
none_held held order k p absent = by (held k) refl
  where
    by : (o : Option Held) → held k ≡ o → held k ≡ None
    by None e = e
    by (Some h) e = absurd (none-some h.value (sym absent ∙ get_pair-placed held order k p ∙ ap kept_value e))

pub place_within : (order : Order) (k : List ℕ) (i : ℕ) → get_or order i None ≡ Some k → i < length order
place_within order k i at = elim (cases_lt i (length order)) [
  | inl low ↦ low
  | inr high ↦ absurd (none-some k (sym (get_or_past order i None high) ∙ at))
]

pub placed-same : (old new : Holds) (order : Order) → ((k : List ℕ) → place_in (new k) ≡ place_in (old k)) → IsPlaced old order → IsPlaced new order
placed-same old new order same p = record {
  stands = λ k i at. p.stands k i (sym (same k) ∙ at);
  holds = λ k i at. same k ∙ p.holds k i at;
}

pub placed-write : (old new : Holds) (order : Order) (k : List ℕ) (h : Held) → Changes old new k (Some h) → place_in (old k) ≡ Some h.place → IsPlaced old order → IsPlaced new order
placed-write old new order k h c at p = placed-same old new order (λ q. elim (cases_key k q) [
  | inl same ↦ ap (λ x. place_in (new x)) (sym same) ∙ ap place_in (changed old new k (Some h) c) ∙ sym at ∙ ap (λ x. place_in (old x)) same
  | inr other ↦ ap place_in (unchanged old new k (Some h) c q other.1)
]) p

pub placed-hole : (old new : Holds) (order : Order) (k : List ℕ) (i : ℕ) → Changes old new k None → StandsAt order k i → IsPlaced old order → IsPlaced new (set order i None)
placed-hole old new order k i c at p = record {
  stands = λ q j there.
      let apart : k ≢ q = λ same. none-some j (sym (ap place_in (changed old new k None c)) ∙ ap (λ x. place_in (new x)) same ∙ there) in
      let before = p.stands q j (sym (ap place_in (unchanged old new k None c q apart)) ∙ there) in
      get_or-set_other order i j None None (λ same. apart (same_Some k q (sym at.0 ∙ ap (λ x. get_or order x None) (sym same) ∙ before))) ∙ before;
  holds = λ q j there. elim (cases_eq j i) [
    | inl same ↦ absurd (none-some q (sym (hole j same) ∙ there))
    | inr other ↦ (let before = sym (get_or-set_other order i j None None other) ∙ there in
        let apart : k ≢ q = λ same. other (at.1 j (before ∙ ap Some (sym same))) in
        ap place_in (unchanged old new k None c q apart) ∙ p.holds q j before)
  ];
}
  where
    hole : (j : ℕ) → j ≡ i → get_or (set order i None) j None ≡ None
    hole j same = elim (cases_lt i (length order)) [
      | inl low ↦ ap (λ x. get_or (set order i None) x None) same ∙ get_or-set_same order i None None low
      | inr high ↦ absurd (none-some k (sym (get_or_past order i None high) ∙ at.0))
    ]

pub placed-add : (old new : Holds) (order : Order) (k : List ℕ) (h : Held) → Changes old new k (Some h) → h.place ≡ length order → old k ≡ None → IsPlaced old order → IsPlaced new (order ++ Some k ∷ [])
placed-add old new order k h c last none p = record {
  stands = λ q i there. elim (cases_key k q) [
    | inl same ↦ (let place : h.place ≡ i = same_Some h.place i (sym (ap place_in (changed old new k (Some h) c)) ∙ ap (λ x. place_in (new x)) same ∙ there) in
        get_or_push order (Some k) None i (sym last ∙ place) ∙ ap Some same)
    | inr other ↦ (let before = p.stands q i (sym (ap place_in (unchanged old new k (Some h) c q other.1)) ∙ there) in
        elim (cases_lt i (length order)) [
          | inl low ↦ get_or_append_left order (Some k ∷ []) None i low ∙ before
          | inr high ↦ absurd (none-some q (sym (get_or_past order i None high) ∙ before))
        ])
  ];
  holds = λ q i there. elim (cases_lt i (length order)) [
    | inl low ↦ (let before = sym (get_or_append_left order (Some k ∷ []) None i low) ∙ there in
        let apart : k ≢ q = λ same. none-some i (sym (ap place_in none) ∙ ap (λ x. place_in (old x)) same ∙ p.holds q i before) in
        ap place_in (unchanged old new k (Some h) c q apart) ∙ p.holds q i before)
    | inr high ↦ behind q i high (i - length order) refl there
  ];
}
  where
    behind : (q : List ℕ) (i : ℕ) → length order ≤ i → (r : ℕ) → i - length order ≡ r → get_or (order ++ Some k ∷ []) i None ≡ Some q → place_in (new q) ≡ Some i
    behind q i high zero e there =
        let same : k ≡ q = same_Some k q (sym (get_or-append_right order (Some k ∷ []) (length order) i None refl high ∙ ap (λ x. get_or (Some k ∷ []) x None) e) ∙ there) in
        let place : h.place ≡ i = last ∙ omega (arith, e, high) in
        ap (λ x. place_in (new x)) (sym same) ∙ ap place_in (changed old new k (Some h) c) ∙ ap Some place
    behind q i high (suc r) e there =
        absurd (none-some q (sym (get_or-append_right order (Some k ∷ []) (length order) i None refl high ∙ ap (λ x. get_or (Some k ∷ []) x None) e) ∙ there))

-- a key that is left by a sweep was there, and a key that was there is left
filter_from : (order : Order) (i : ℕ) (k : List ℕ) → get_or (filter is_some order) i None ≡ Some k → (j : ℕ) × (get_or order j None ≡ Some k)
filter_from [] i k at = absurd (none-some k at)
filter_from (None ∷ rest) i k at = let found = filter_from rest i k at in (suc found.0, found.1)
filter_from (Some q ∷ rest) zero k at = (0, at)
filter_from (Some q ∷ rest) (suc i) k at = let found = filter_from rest i k at in (suc found.0, found.1)

filter_to : (order : Order) (j : ℕ) (k : List ℕ) → get_or order j None ≡ Some k → (i : ℕ) × (get_or (filter is_some order) i None ≡ Some k)
filter_to [] j k at = absurd (none-some k at)
filter_to (None ∷ rest) zero k at = absurd (none-some k at)
filter_to (None ∷ rest) (suc j) k at = filter_to rest j k at
filter_to (Some q ∷ rest) zero k at = (0, at)
filter_to (Some q ∷ rest) (suc j) k at = let found = filter_to rest j k at in (suc found.0, found.1)

once_later : (slot : Option (List ℕ)) (rest : Order) → IsOnce (slot ∷ rest) → IsOnce rest
once_later slot rest once k i j here there = let next : suc i ≡ suc j = once k (suc i) (suc j) here there in omega (arith, next)

pub once_filter : (order : Order) → IsOnce order → IsOnce (filter is_some order)
once_filter [] once k i j here there = absurd (none-some k here)
once_filter (None ∷ rest) once k i j here there = once_filter rest (once_later None rest once) k i j here there
once_filter (Some q ∷ rest) once k zero zero here there = refl
once_filter (Some q ∷ rest) once k zero (suc j) here there =
    let found = filter_from rest j k there in absurd (let far : 0 ≡ suc found.0 = once k 0 (suc found.0) here found.1 in omega (arith, far))
once_filter (Some q ∷ rest) once k (suc i) zero here there =
    let found = filter_from rest i k here in absurd (let far : 0 ≡ suc found.0 = once k 0 (suc found.0) there found.1 in omega (arith, far))
once_filter (Some q ∷ rest) once k (suc i) (suc j) here there = ap suc (once_filter rest (once_later (Some q) rest once) k i j here there)

-- one place on: a hole, or a key that takes its place
module _ (before now : Holds) (order : Order) (place : ℕ) where
  pub renumbers-hole : get_or order place None ≡ None → Renumbers before now order place → Renumbers before now order (place + 1)
  renumbers-hole hole r = record {
    values = r.values;
    places = λ k i low at. elim (cases_eq i place) [
      | inl same ↦ absurd (none-some k (sym hole ∙ ap (λ x. get_or order x None) (sym same) ∙ at))
      | inr other ↦ r.places k i (omega (arith, low, other)) at
    ];
  }

  pub renumbers-key : (new : Holds) (k : List ℕ) (h : Held) → IsOnce order → get_or order place None ≡ Some k → now k ≡ Some h → Changes now new k (Some (record { value = h.value; place = place })) → Renumbers before now order place → Renumbers before new order (place + 1)
  renumbers-key new k h once here had c r = record {
    values = λ q. elim (cases_key k q) [
      | inl same ↦ ap (λ x. kept_value (new x)) (sym same) ∙ ap kept_value (changed now new k _ c) ∙ sym (ap kept_value had) ∙ r.values k ∙ ap (λ x. kept_value (before x)) same
      | inr other ↦ ap kept_value (unchanged now new k _ c q other.1) ∙ r.values q
    ];
    places = λ q i low at. elim (cases_key k q) [
      | inl same ↦ ap (λ x. place_in (new x)) (sym same) ∙ ap place_in (changed now new k _ c) ∙ ap Some (once k place i here (at ∙ ap Some (sym same)))
      | inr other ↦ (let apart : i ≢ place = λ same. other.1 (same_Some k q (sym here ∙ ap (λ x. get_or order x None) (sym same) ∙ at)) in
          ap place_in (unchanged now new k _ c q other.1) ∙ r.places q i (omega (arith, low, apart)) at)
    ];
  }

-- after a sweep each key that is held stands in its place
pub placed-sweep : (old new : Holds) (order : Order) → IsPlaced old order → ((k : List ℕ) → kept_value (new k) ≡ kept_value (old k)) → ((k : List ℕ) (i : ℕ) → get_or (filter is_some order) i None ≡ Some k → place_in (new k) ≡ Some i) → IsPlaced new (filter is_some order)
placed-sweep old new order p values places = record { stands = stands; holds = places }
  where
    stands : (k : List ℕ) (i : ℕ) → place_in (new k) ≡ Some i → get_or (filter is_some order) i None ≡ Some k
    stands k i at = by (old k) refl
      where
        by : (o : Option Held) → old k ≡ o → get_or (filter is_some order) i None ≡ Some k
        by None e = absurd (missing (new k) refl)
          where
            missing : (o : Option Held) → new k ≡ o → ⊥
            missing None f = none-some i (sym (ap place_in f) ∙ at)
            missing (Some h) f = none-some h.value (sym (ap kept_value e) ∙ sym (values k) ∙ ap kept_value f)
        by (Some h) e =
            let found = filter_to order h.place k (p.stands k h.place (ap place_in e)) in
            let same : found.0 ≡ i = same_Some found.0 i (sym (places k found.0 found.1) ∙ at) in
            ap (λ x. get_or (filter is_some order) x None) (sym same) ∙ found.1

-- a key that stands in a swept order is held
pub swept_held : (held : Holds) (order : Order) → IsPlaced held order → (k : List ℕ) (i : ℕ) → get_or (filter is_some order) i None ≡ Some k → IsSome (held k)
swept_held held order p k i at = by (held k) refl
  where
    by : (o : Option Held) → held k ≡ o → IsSome (held k)
    by None e = let found = filter_from order i k at in absurd (none-some found.0 (sym (ap place_in e) ∙ p.holds k found.0 found.1))
    by (Some h) e = ap is_some e

pub value_from_kept : (old new : Holds) (k : List ℕ) → kept_value (new k) ≡ kept_value (old k) → value_in (new k) ≡ value_in (old k)
value_from_kept old new k same = value_of (new k) ∙ ap value_or_uninit same ∙ sym (value_of (old k))
  where
    value_of : (o : Option Held) → value_in o ≡ value_or_uninit (kept_value o)
    value_of None = refl
    value_of (Some h) = refl

-- ---- an entry of the map by its place

abbrev Entries : Type 0
Entries = List (List ℕ × Held)

pub value_there : (entries : Entries) (place : ℕ) (k : List ℕ) (h x : Held) → slice_get entries place ≡ Some (k, h) → slice_get (map (λ p. p.1) entries) place ≡ Some x → x ≡ h
value_there [] place k h x at is = absurd (none-some (k, h) at)
value_there (e ∷ rest) zero k h x at is = sym (same_Some e.1 x is) ∙ ap (λ (p : List ℕ × Held). p.1) (same_Some e (k, h) at)
value_there (e ∷ rest) (suc n) k h x at is = value_there rest n k h x at is

pub no_value_there : (entries : Entries) (place : ℕ) (k : List ℕ) (h : Held) → slice_get entries place ≡ Some (k, h) → slice_get (map (λ p. p.1) entries) place ≡ None → ⊥
no_value_there [] place k h at none = none-some (k, h) at
no_value_there (e ∷ rest) zero k h at none = none-some e.1 (sym none)
no_value_there (e ∷ rest) (suc n) k h at none = no_value_there rest n k h at none
