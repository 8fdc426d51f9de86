-- From the least set of numbers to the least set of variables.
use Rattle.std.proofs.Common.{◌≡◌, ℕ, zero, suc, ◌<◌, Bool, true, false, IsTrue, ◌||◌, List, [], ◌∷◌, ◌++◌, map, All, length, Option, Some, None, refl, ap, sym, subst, ◌∙◌, ◌⊎◌, inl, inr, true≢false, if◌then◌else◌, arith}
use Rattle.std.specs.List.{slice_get, list_any}
use Rattle.std.proofs.lemmas.List.Elements.{All-nil, All-cons, All-head, All-tail}
use Rattle.awk_grammar.specs.Marks.{Mark, Defined, Parameter, Used, Called, Computed, Given}
use Rattle.awk_grammar.specs.Kinds.{Key, Head, same_key, with_key, with_keys, with_maybe, with_mark, with_marks, parameter_at, key_in}
use Rattle.awk_grammar.specs.Least.{IsLeast}
use Rattle.awk_grammar.specs.LeastSets.{least}
use Rattle.awk_resolve.specs.Marked.{is_marked, is_marked_in, place}
use Rattle.awk_resolve.specs.Numbered.{AreNumbers, ArePairs, both_at, both_some}
use Rattle.awk_resolve.proofs.Names.{key_sound, key_refl}
use Rattle.awk_resolve.proofs.Marked.{marked_small}
use Rattle.awk_resolve.proofs.Least.{least_is}

or_cases : (a b : Bool) → (a || b) ≡ true → (a ≡ true) ⊎ (b ≡ true)
or_cases true b h = inl refl
or_cases false b h = inr h

-- Each variable stands at its place.

abbrev pub AreApart : List Key → Type 0
AreApart keys = (n : ℕ) (k : Key) → slice_get keys n ≡ Some k → place keys k ≡ n

place_by : (b : Bool) (n m : ℕ) → b ≡ true → (if b then n else m) ≡ n
place_by true n m h = refl
place_by false n m h = absurd (true≢false (sym h))

place_past : (b : Bool) (n m : ℕ) → b ≡ false → (if b then n else m) ≡ m
place_past true n m h = absurd (true≢false h)
place_past false n m h = refl

-- the place of one that is there does not change
place_append : (keys ls : List Key) (k : Key) → list_any (same_key k) keys ≡ true → place (keys ++ ls) k ≡ place keys k
place_append [] ls k h = absurd (true≢false (sym h))
place_append (x ∷ keys) ls k h = by (same_key k x) h (place_append keys ls k)
  where
    by : (b : Bool) → (b || list_any (same_key k) keys) ≡ true → (list_any (same_key k) keys ≡ true → place (keys ++ ls) k ≡ place keys k) → (if b then 0 else suc (place (keys ++ ls) k)) ≡ (if b then 0 else suc (place keys k))
    by true i next = refl
    by false i next = ap suc (next i)

place_new : (keys : List Key) (l : Key) → list_any (same_key l) keys ≡ false → place (keys ++ l ∷ []) l ≡ length keys
place_new [] l h = place_by (same_key l l) 0 1 (key_refl l)
place_new (x ∷ keys) l h = by (same_key l x) h (place_new keys l)
  where
    by : (b : Bool) → (b || list_any (same_key l) keys) ≡ false → (list_any (same_key l) keys ≡ false → place (keys ++ l ∷ []) l ≡ length keys) → (if b then 0 else suc (place (keys ++ l ∷ []) l)) ≡ suc (length keys)
    by true i next = absurd (true≢false i)
    by false i next = ap suc (next i)

get_any : (keys : List Key) (n : ℕ) (k : Key) → slice_get keys n ≡ Some k → list_any (same_key k) keys ≡ true
get_any [] n k h = absurd (cc)
get_any (x ∷ keys) zero k h = let e : x ≡ k = cc in ap (λ (b : Bool). b || list_any (same_key k) keys) (ap (same_key k) e ∙ key_refl k)
get_any (x ∷ keys) (suc n) k h = by (same_key k x) (get_any keys n k h)
  where
    by : (b : Bool) → list_any (same_key k) keys ≡ true → (b || list_any (same_key k) keys) ≡ true
    by true i = refl
    by false i = i

get_push : (keys : List Key) (l : Key) (n : ℕ) (k : Key) → slice_get (keys ++ l ∷ []) n ≡ Some k → (slice_get keys n ≡ Some k) ⊎ ((n ≡ length keys) × (k ≡ l))
get_push [] l zero k h = inr (refl, cc)
get_push [] l (suc n) k h = absurd (cc)
get_push (x ∷ keys) l zero k h = inl h
get_push (x ∷ keys) l (suc n) k h = by (get_push keys l n k h)
  where
    by : (slice_get keys n ≡ Some k) ⊎ ((n ≡ length keys) × (k ≡ l)) → (slice_get keys n ≡ Some k) ⊎ ((suc n ≡ suc (length keys)) × (k ≡ l))
    by (inl i) = inl i
    by (inr i) = inr (ap suc i.0, i.1)

apart_by : (b : Bool) (keys : List Key) (l : Key) → list_any (same_key l) keys ≡ b → AreApart keys → AreApart (if b then keys else keys ++ l ∷ [])
apart_by true keys l any apart n k h = apart n k h
apart_by false keys l any apart n k h = by (get_push keys l n k h)
  where
    by : (slice_get keys n ≡ Some k) ⊎ ((n ≡ length keys) × (k ≡ l)) → place (keys ++ l ∷ []) k ≡ n
    by (inl i) = place_append keys (l ∷ []) k (get_any keys n k i) ∙ apart n k i
    by (inr i) = ap (place (keys ++ l ∷ [])) (i.1) ∙ place_new keys l any ∙ sym (i.0)

apart_with_key : (keys : List Key) (l : Key) → AreApart keys → AreApart (with_key keys l)
apart_with_key keys l apart = apart_by (list_any (same_key l) keys) keys l refl apart

pub apart_with_keys : (keys ls : List Key) → AreApart keys → AreApart (with_keys keys ls)
apart_with_keys keys [] apart = apart
apart_with_keys keys (l ∷ ls) apart = apart_with_keys (with_key keys l) ls (apart_with_key keys l apart)

apart_with_maybe : (keys : List Key) (o : Option Key) → AreApart keys → AreApart (with_maybe keys o)
apart_with_maybe keys None apart = apart
apart_with_maybe keys (Some l) apart = apart_with_key keys l apart

apart_with_mark : (hs : List Head) (keys : List Key) (m : Mark) → AreApart keys → AreApart (with_mark hs keys m)
apart_with_mark hs keys (Defined f) apart = apart
apart_with_mark hs keys (Parameter f x) apart = apart
apart_with_mark hs keys (Used kind at x) apart = apart_with_key keys (key_in hs at x) apart
apart_with_mark hs keys (Called f n) apart = apart
apart_with_mark hs keys (Computed f i) apart = apart
apart_with_mark hs keys (Given f i at x) apart = apart_with_maybe (with_key keys (key_in hs at x)) (parameter_at hs f i) (apart_with_key keys (key_in hs at x) apart)

pub apart_with_marks : (hs : List Head) (keys : List Key) (ms : List Mark) → AreApart keys → AreApart (with_marks hs keys ms)
apart_with_marks hs keys [] apart = apart
apart_with_marks hs keys (m ∷ ms) apart = apart_with_marks hs (with_mark hs keys m) ms (apart_with_mark hs keys m apart)

pub none_apart : AreApart []
none_apart n k h = absurd (cc)

-- one whose place is within the list stands there
at_place : (keys : List Key) (k : Key) → place keys k < length keys → slice_get keys (place keys k) ≡ Some k
at_place [] k lt = absurd (omega arith)
at_place (x ∷ keys) k lt = by (same_key k x) refl lt (at_place keys k)
  where
    by : (b : Bool) → same_key k x ≡ b → (if b then 0 else suc (place keys k)) < suc (length keys) → (place keys k < length keys → slice_get keys (place keys k) ≡ Some k) → slice_get (x ∷ keys) (if b then 0 else suc (place keys k)) ≡ Some k
    by true e i next = ap Some (sym (key_sound k x e))
    by false e i next = next (omega arith)

get_small : (keys : List Key) (n : ℕ) (k : Key) → slice_get keys n ≡ Some k → n < length keys
get_small [] n k h = absurd (cc)
get_small (x ∷ keys) zero k h = omega arith
get_small (x ∷ keys) (suc n) k h = let e = get_small keys n k h in omega (arith, e)

-- Numbers of variables.

-- what holds of each number with its variable, and of the variables, holds of the numbers; and the other way round
numbers_all : (keys : List Key) (f : ℕ → Bool) (g : Key → Bool) → ((n : ℕ) (k : Key) → slice_get keys n ≡ Some k → IsTrue (g k) → IsTrue (f n)) → (ns : List ℕ) (ks : List Key) → AreNumbers keys ns ks → All (λ k. IsTrue (g k)) ks → All (λ n. IsTrue (f n)) ns
numbers_all keys f g step [] ks are all = All-nil (λ n. IsTrue (f n))
numbers_all keys f g step (n ∷ ns) [] are all = absurd (cc)
numbers_all keys f g step (n ∷ ns) (k ∷ ks) are all =
    let head : slice_get keys n ≡ Some k = cc in
    let tail : map (slice_get keys) ns ≡ map Some ks = cc in
    All-cons (λ n. IsTrue (f n)) n ns (step n k head (All-head (λ k. IsTrue (g k)) k ks all)) (numbers_all keys f g step ns ks tail (All-tail (λ k. IsTrue (g k)) k ks all))

keys_all : (keys : List Key) (f : ℕ → Bool) (g : Key → Bool) → ((n : ℕ) (k : Key) → slice_get keys n ≡ Some k → IsTrue (f n) → IsTrue (g k)) → (ns : List ℕ) (ks : List Key) → AreNumbers keys ns ks → All (λ n. IsTrue (f n)) ns → All (λ k. IsTrue (g k)) ks
keys_all keys f g step ns [] are all = All-nil (λ k. IsTrue (g k))
keys_all keys f g step [] (k ∷ ks) are all = absurd (cc)
keys_all keys f g step (n ∷ ns) (k ∷ ks) are all =
    let head : slice_get keys n ≡ Some k = cc in
    let tail : map (slice_get keys) ns ≡ map Some ks = cc in
    All-cons (λ k. IsTrue (g k)) k ks (step n k head (All-head (λ n. IsTrue (f n)) n ns all)) (keys_all keys f g step ns ks tail (All-tail (λ n. IsTrue (f n)) n ns all))

abbrev Follows : {A : Type 0} → (A → Bool) → A × A → Type 0
Follows f p = IsTrue (f p.1) → IsTrue (f p.0)

pair_numbers_follow : (keys : List Key) (f : ℕ → Bool) (g : Key → Bool) → ((n : ℕ) (k : Key) → slice_get keys n ≡ Some k → f n ≡ g k) → (ps : List (ℕ × ℕ)) (qs : List (Key × Key)) → ArePairs keys ps qs → All (Follows g) qs → All (Follows f) ps
pair_numbers_follow keys f g same [] qs are all = All-nil (Follows f)
pair_numbers_follow keys f g same (p ∷ ps) [] are all = absurd (cc)
pair_numbers_follow keys f g same (p ∷ ps) (q ∷ qs) are all =
    let head : both_at keys p ≡ both_some q = cc in
    let tail : map (both_at keys) ps ≡ map both_some qs = cc in
    let first = same p.0 q.0 (ap (λ (u : Option Key × Option Key). u.0) head) in
    let second = same p.1 q.1 (ap (λ (u : Option Key × Option Key). u.1) head) in
    All-cons (Follows f) p ps (λ h. first ∙ All-head (Follows g) q qs all (sym second ∙ h)) (pair_numbers_follow keys f g same ps qs tail (All-tail (Follows g) q qs all))

pair_keys_follow : (keys : List Key) (f : ℕ → Bool) (g : Key → Bool) → ((n : ℕ) (k : Key) → slice_get keys n ≡ Some k → f n ≡ g k) → (ps : List (ℕ × ℕ)) (qs : List (Key × Key)) → ArePairs keys ps qs → All (Follows f) ps → All (Follows g) qs
pair_keys_follow keys f g same ps [] are all = All-nil (Follows g)
pair_keys_follow keys f g same [] (q ∷ qs) are all = absurd (cc)
pair_keys_follow keys f g same (p ∷ ps) (q ∷ qs) are all =
    let head : both_at keys p ≡ both_some q = cc in
    let tail : map (both_at keys) ps ≡ map both_some qs = cc in
    let first = same p.0 q.0 (ap (λ (u : Option Key × Option Key). u.0) head) in
    let second = same p.1 q.1 (ap (λ (u : Option Key × Option Key). u.1) head) in
    All-cons (Follows g) q qs (λ h. sym first ∙ All-head (Follows f) p ps all (second ∙ h)) (pair_keys_follow keys f g same ps qs tail (All-tail (Follows f) p ps all))

holds_at : (Key → Bool) → Option Key → Bool
holds_at g None = false
holds_at g (Some k) = g k

same_answer : (a b : Bool) → (a ≡ true → b ≡ true) → (b ≡ true → a ≡ true) → a ≡ b
same_answer true b f g = sym (f refl)
same_answer false true f g = g refl
same_answer false false f g = refl

-- the set of marked variables is the least one
pub marked_is : (keys : List Key) → AreApart keys → (ns : List ℕ) (ks : List Key) (ps : List (ℕ × ℕ)) (qs : List (Key × Key)) → AreNumbers keys ns ks → ArePairs keys ps qs → (ms : List Bool) → length ms ≡ length keys → IsLeast (is_marked ms) ns ps
    → (k : Key) → is_marked_in keys ms k ≡ least same_key ks qs k
unfolding holds_at
marked_is keys apart ns ks ps qs numbers are ms len marked k = same_answer (is_marked_in keys ms k) (set k) forth back
  where
    set : Key → Bool
    set = least same_key ks qs

    is : IsLeast set ks qs
    is = least_is same_key key_sound key_refl ks qs

    at : (n : ℕ) (l : Key) → slice_get keys n ≡ Some l → holds_at set (slice_get keys n) ≡ set l
    at n l h = ap (holds_at set) h

    here : (n : ℕ) (l : Key) → slice_get keys n ≡ Some l → is_marked ms n ≡ is_marked_in keys ms l
    here n l h = ap (is_marked ms) (sym (apart n l h))

    forth : is_marked_in keys ms k ≡ true → set k ≡ true
    forth h =
        let there = at_place keys k (subst (λ (n : ℕ). place keys k < n) len (marked_small ms (place keys k) h)) in
        sym (at (place keys k) k there) ∙ marked.within (λ n. holds_at set (slice_get keys n))
        (record {
          has = numbers_all keys (λ n. holds_at set (slice_get keys n)) set (λ n l e i. at n l e ∙ i) ns ks numbers is.closed.has;
          follows = pair_numbers_follow keys (λ n. holds_at set (slice_get keys n)) set at ps qs are is.closed.follows;
        }) (place keys k) h

    back : set k ≡ true → is_marked_in keys ms k ≡ true
    back h = is.within (is_marked_in keys ms)
        (record {
          has = keys_all keys (is_marked ms) (is_marked_in keys ms) (λ n l e i. sym (here n l e) ∙ i) ns ks numbers marked.closed.has;
          follows = pair_keys_follow keys (is_marked ms) (is_marked_in keys ms) here ps qs are marked.closed.follows;
        }) k h

-- the numbers are places in the list
pub numbers_small : (keys : List Key) (ns : List ℕ) (ks : List Key) → AreNumbers keys ns ks → All (λ n. n < length keys) ns
numbers_small keys [] ks are = All-nil (λ n. n < length keys)
numbers_small keys (n ∷ ns) [] are = absurd (cc)
numbers_small keys (n ∷ ns) (k ∷ ks) are =
    let head : slice_get keys n ≡ Some k = cc in
    let tail : map (slice_get keys) ns ≡ map Some ks = cc in
    All-cons (λ n. n < length keys) n ns (get_small keys n k head) (numbers_small keys ns ks tail)

pub pairs_small : (keys : List Key) (ps : List (ℕ × ℕ)) (qs : List (Key × Key)) → ArePairs keys ps qs → All (λ p. (p.0 < length keys) × (p.1 < length keys)) ps
pairs_small keys [] qs are = All-nil (λ p. (p.0 < length keys) × (p.1 < length keys))
pairs_small keys (p ∷ ps) [] are = absurd (cc)
pairs_small keys (p ∷ ps) (q ∷ qs) are =
    let head : both_at keys p ≡ both_some q = cc in
    let tail : map (both_at keys) ps ≡ map both_some qs = cc in
    let first = get_small keys p.0 q.0 (ap (λ (u : Option Key × Option Key). u.0) head) in
    let second = get_small keys p.1 q.1 (ap (λ (u : Option Key × Option Key). u.1) head) in
    All-cons (λ p. (p.0 < length keys) × (p.1 < length keys)) p ps (first, second) (pairs_small keys ps qs tail)
