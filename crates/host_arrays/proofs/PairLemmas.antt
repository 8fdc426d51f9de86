-- The pairs of an order: what a look-up in them gives, and what a write, a hole, a new key and a sweep make of them.
use Rattle.std.proofs.Common.{◌≡◌, ◌≢◌, ℕ, zero, suc, true, false, cond, not, List, [], ◌∷◌, ◌++◌, Option, Some, None, is_some, get_or, set, filter, refl, sym, ap, ◌∙◌, arith, inl, inr, ◌⊎◌, if◌then◌else◌}
use Rattle.std.proofs.lemmas.Bool.{cases_Bool, false≢true}
use Rattle.std.proofs.lemmas.Option.{none-some, same_Some}
use Rattle.std.specs.Cmp.Lexicographic.{bytes_decides}
use Rattle.std.specs.List.{filter_map}
use Rattle.std.specs.Map.{keys_of}
use Rattle.indexmap.proofs.MapLemmas.{insert_entry-absent, absent_from_lookup}
use Rattle.awk_values.specs.declared.value.Value.{Value}
use Rattle.host_arrays.specs.Pairs.{Pairs, is_key, get_pair, set_pair, delete_pair}
use Rattle.host_arrays.specs.declared.array.Held.{Held}
use Rattle.host_arrays.specs.Order.{Order, Holds, Changes, StandsAt, IsApart, value_in, pairs_in}

pub same_key : (k q : List ℕ) → k ≡ q → is_key k q ≡ true
same_key k q same = (bytes_decides k q).1 same

-- two keys are the same or told apart
pub cases_key : (k q : List ℕ) → (k ≡ q) ⊎ ((is_key k q ≡ false) × (k ≢ q))
cases_key k q = elim (cases_Bool (is_key k q)) [
  | inl alike ↦ inl ((bytes_decides k q).0 alike)
  | inr apart ↦ inr (apart, λ same. false≢true (sym apart ∙ same_key k q same))
]

-- a new key goes last
pub set_pair-new : (k : List ℕ) (v : Value) (pairs : Pairs) → get_pair k pairs ≡ None → set_pair k v pairs ≡ pairs ++ (k, v) ∷ []
set_pair-new k v pairs none = insert_entry-absent is_key k v pairs (absent_from_lookup (is_key k) pairs none)

-- a key that is not there is not missed
pub delete_pair-absent : (k : List ℕ) (pairs : Pairs) → get_pair k pairs ≡ None → delete_pair k pairs ≡ pairs
delete_pair-absent k [] none = refl
delete_pair-absent k (p ∷ pairs) none = elim (cases_Bool (is_key k p.0)) [
  | inl alike ↦ absurd (none-some p.1 (sym none ∙ ap (λ b. cond b (Some p.1) (get_pair k pairs)) alike))
  | inr apart ↦ ap (λ b. cond (not b) (p ∷ delete_pair k pairs) (delete_pair k pairs)) apart ∙ ap (λ more. p ∷ more) (delete_pair-absent k pairs (sym (ap (λ b. cond b (Some p.1) (get_pair k pairs)) apart) ∙ none))
]

module _ (old new : Holds) (k : List ℕ) (slot : Option Held) (c : Changes old new k slot) where
  pub changed : new k ≡ slot
  changed = c k ∙ ap (λ b. cond b slot (old k)) (same_key k k refl)

  pub unchanged : (q : List ℕ) → k ≢ q → new q ≡ old q
  unchanged q apart = elim (cases_key k q) [
    | inl same ↦ absurd (apart same)
    | inr other ↦ c q ∙ ap (λ b. cond b slot (old q)) other.0
  ]

-- only what stands in the order is asked for
pub pairs_in-agree : (old new : Holds) (order : Order) → ((k : List ℕ) (i : ℕ) → get_or order i None ≡ Some k → value_in (new k) ≡ value_in (old k)) → pairs_in new order ≡ pairs_in old order
pairs_in-agree old new [] same = refl
pairs_in-agree old new (None ∷ rest) same = pairs_in-agree old new rest (λ k i. same k (suc i))
pairs_in-agree old new (Some k ∷ rest) same =
    let tail = pairs_in-agree old new rest (λ q i. same q (suc i)) in (λ j. (k, same k 0 refl j) ∷ tail j)

module _ (old new : Holds) (k : List ℕ) (slot : Option Held) (c : Changes old new k slot) where
  pairs_in-apart : (order : Order) → IsApart order k → pairs_in new order ≡ pairs_in old order
  pairs_in-apart order none =
      pairs_in-agree old new order (λ q i at. ap value_in (unchanged old new k slot c q (λ same. none i (at ∙ ap Some (sym same)))))

  -- past the place of the key
  apart_past : (q : List ℕ) (rest : Order) → StandsAt (Some q ∷ rest) k 0 → IsApart rest k
  apart_past q rest at j there = absurd (let past : suc j ≡ 0 = at.1 (suc j) there in omega (arith, past))

  -- before the place of the key
  apart_before : (q : List ℕ) (rest : Order) (i : ℕ) → StandsAt (Some q ∷ rest) k (suc i) → k ≢ q
  apart_before q rest i at same = absurd (let here : 0 ≡ suc i = at.1 0 (ap Some (sym same)) in omega (arith, here))

later_place : (slot : Option (List ℕ)) (rest : Order) (k : List ℕ) (i : ℕ) → StandsAt (slot ∷ rest) k (suc i) → StandsAt rest k i
later_place slot rest k i at = (at.0, λ j there. let next : suc j ≡ suc i = at.1 (suc j) there in omega (arith, next))

-- a value written at a key
pub pairs_in-write : (old new : Holds) (k : List ℕ) (h : Held) → Changes old new k (Some h) → (order : Order) (i : ℕ) → StandsAt order k i → pairs_in new order ≡ set_pair k h.value (pairs_in old order)
pairs_in-write old new k h c [] i at = absurd (none-some k at.0)
pairs_in-write old new k h c (None ∷ rest) zero at = absurd (none-some k at.0)
pairs_in-write old new k h c (None ∷ rest) (suc i) at = pairs_in-write old new k h c rest i (later_place None rest k i at)
pairs_in-write old new k h c (Some q ∷ rest) zero at =
    let same : k ≡ q = sym (same_Some q k at.0) in
    let value : value_in (new q) ≡ h.value = ap (λ x. value_in (new x)) (sym same) ∙ ap value_in (changed old new k (Some h) c) in
    let tail = pairs_in-apart old new k (Some h) c rest (apart_past old new k (Some h) c q rest at) in
    (λ j. (q, value j) ∷ tail j)
    ∙ sym (ap (λ b. if b then (q, h.value) ∷ pairs_in old rest else (q, value_in (old q)) ∷ set_pair k h.value (pairs_in old rest)) (same_key k q same))
pairs_in-write old new k h c (Some q ∷ rest) (suc i) at = elim (cases_key k q) [
  | inl same ↦ absurd (apart_before old new k (Some h) c q rest i at same)
  | inr other ↦ (let tail = pairs_in-write old new k h c rest i (later_place (Some q) rest k i at) in
      let value = ap value_in (unchanged old new k (Some h) c q other.1) in
      (λ j. (q, value j) ∷ tail j)
      ∙ sym (ap (λ b. if b then (q, h.value) ∷ pairs_in old rest else (q, value_in (old q)) ∷ set_pair k h.value (pairs_in old rest)) other.0))
]

-- a key that stands nowhere has no pair
pub get_pair-apart : (held : Holds) (order : Order) (k : List ℕ) → IsApart order k → get_pair k (pairs_in held order) ≡ None
get_pair-apart held [] k none = refl
get_pair-apart held (None ∷ rest) k none = get_pair-apart held rest k (λ i. none (suc i))
get_pair-apart held (Some q ∷ rest) k none = elim (cases_key k q) [
  | inl same ↦ absurd (none 0 (ap Some (sym same)))
  | inr other ↦ ap (λ b. cond b (Some (value_in (held q))) (get_pair k (pairs_in held rest))) other.0 ∙ get_pair-apart held rest k (λ i. none (suc i))
]

-- a key taken out, with a hole in its place
pub pairs_in-hole : (old new : Holds) (k : List ℕ) → Changes old new k None → (order : Order) (i : ℕ) → StandsAt order k i → pairs_in new (set order i None) ≡ delete_pair k (pairs_in old order)
pairs_in-hole old new k c [] i at = absurd (none-some k at.0)
pairs_in-hole old new k c (None ∷ rest) zero at = absurd (none-some k at.0)
pairs_in-hole old new k c (None ∷ rest) (suc i) at = pairs_in-hole old new k c rest i (later_place None rest k i at)
pairs_in-hole old new k c (Some q ∷ rest) zero at =
    let apart = apart_past old new k None c q rest at in
    let same : k ≡ q = sym (same_Some q k at.0) in
    pairs_in-apart old new k None c rest apart
    ∙ sym (delete_pair-absent k (pairs_in old rest) (get_pair-apart old rest k apart))
    ∙ sym (ap (λ b. cond (not b) ((q, value_in (old q)) ∷ delete_pair k (pairs_in old rest)) (delete_pair k (pairs_in old rest))) (same_key k q same))
pairs_in-hole old new k c (Some q ∷ rest) (suc i) at = elim (cases_key k q) [
  | inl same ↦ absurd (apart_before old new k None c q rest i at same)
  | inr other ↦ (let tail = pairs_in-hole old new k c rest i (later_place (Some q) rest k i at) in
      let value = ap value_in (unchanged old new k None c q other.1) in
      (λ j. (q, value j) ∷ tail j)
      ∙ sym (ap (λ b. cond (not b) ((q, value_in (old q)) ∷ delete_pair k (pairs_in old rest)) (delete_pair k (pairs_in old rest))) other.0))
]

pairs_in-push : (held : Holds) (order : Order) (k : List ℕ) → pairs_in held (order ++ Some k ∷ []) ≡ pairs_in held order ++ (k, value_in (held k)) ∷ []
pairs_in-push held [] k = refl
pairs_in-push held (None ∷ rest) k = pairs_in-push held rest k
pairs_in-push held (Some q ∷ rest) k = ap (λ pairs. (q, value_in (held q)) ∷ pairs) (pairs_in-push held rest k)

-- a new key at the end
pub pairs_in-add : (old new : Holds) (k : List ℕ) (h : Held) → Changes old new k (Some h) → (order : Order) → IsApart order k → pairs_in new (order ++ Some k ∷ []) ≡ pairs_in old order ++ (k, h.value) ∷ []
pairs_in-add old new k h c order none =
    let front = pairs_in-apart old new k (Some h) c order none in
    let value = ap value_in (changed old new k (Some h) c) in
    pairs_in-push new order k ∙ (λ j. front j ++ (k, value j) ∷ [])

-- a sweep of the holes
pub pairs_in-filter : (held : Holds) (order : Order) → pairs_in held (filter is_some order) ≡ pairs_in held order
pairs_in-filter held [] = refl
pairs_in-filter held (None ∷ rest) = pairs_in-filter held rest
pairs_in-filter held (Some k ∷ rest) = ap (λ pairs. (k, value_in (held k)) ∷ pairs) (pairs_in-filter held rest)

pub keys-pairs_in : (held : Holds) (order : Order) → keys_of (pairs_in held order) ≡ filter_map (λ slot. slot) order
keys-pairs_in held [] = refl
keys-pairs_in held (None ∷ rest) = keys-pairs_in held rest
keys-pairs_in held (Some k ∷ rest) = ap (λ keys. k ∷ keys) (keys-pairs_in held rest)

pub get_pair-there : (held : Holds) (order : Order) (k : List ℕ) (i : ℕ) → get_or order i None ≡ Some k → get_pair k (pairs_in held order) ≡ Some (value_in (held k))
get_pair-there held [] k i at = absurd (none-some k at)
get_pair-there held (None ∷ rest) k zero at = absurd (none-some k at)
get_pair-there held (None ∷ rest) k (suc i) at = get_pair-there held rest k i at
get_pair-there held (Some q ∷ rest) k zero at =
    let same : k ≡ q = sym (same_Some q k at) in
    ap (λ b. cond b (Some (value_in (held q))) (get_pair k (pairs_in held rest))) (same_key k q same) ∙ ap (λ x. Some (value_in (held x))) (sym same)
get_pair-there held (Some q ∷ rest) k (suc i) at = elim (cases_key k q) [
  | inl same ↦ ap (λ b. cond b (Some (value_in (held q))) (get_pair k (pairs_in held rest))) (same_key k q same) ∙ ap (λ x. Some (value_in (held x))) (sym same)
  | inr other ↦ ap (λ b. cond b (Some (value_in (held q))) (get_pair k (pairs_in held rest))) other.0 ∙ get_pair-there held rest k i at
]
