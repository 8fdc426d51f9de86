-- What stands in a list under a number's place: once something is added, changed or let go.
use Rattle.std.proofs.Common.{◌≡◌, ◌≢◌, ◌<◌, ℕ, zero, suc, ℤ, Bool, true, false, cond, inl, inr, List, [], ◌∷◌, ◌++◌, length, Option, Some, None, is_some, refl, sym, ap, ◌∙◌, subst, arith, true≢false, set, length-set, get_or-set_same, get_or-set_other}
use Rattle.std.specs.Prelude.{slice_get, slice_set}
use Rattle.std.specs.Ordering.{int_cmp, int_eq}
use Rattle.std.specs.Cmp.{int_cmp_total, signed_Decides}
use Rattle.std.specs.FinMap as map
use Rattle.std.specs.FinMap.{FinMap}
use Rattle.std.proofs.lemmas.Option.{slice_get-get_or, slice_get_past, slice_get_within}
use Rattle.std.proofs.lemmas.Bool.{cases_lt}
use Rattle.host_handles.proofs.NumberLemmas.{insert_same}
use Rattle.host_values.specs.Forms.{IsHeld, Iterators, Keys, Shows}
use Rattle.host_values.specs.Turns.{keys_at, keys_or_none}

-- Lists.

pub get_before : {A : Type 0} (all more : List A) (n : ℕ) (x : A) → slice_get all n ≡ Some x → slice_get (all ++ more) n ≡ Some x
get_before [] more n x e = cc
get_before (y ∷ all) more zero x e = e
get_before (y ∷ all) more (suc n) x e = get_before all more n x e

pub get_last : {A : Type 0} (all : List A) (x : A) → slice_get (all ++ x ∷ []) (length all) ≡ Some x
get_last [] x = refl
get_last (y ∷ all) x = get_last all x

get_set_same : {A : Type 0} (all : List A) (n : ℕ) (x : A) → n < length all → slice_get (slice_set all n x) n ≡ Some x
get_set_same all n x h = slice_get-get_or (set all n x) n x (omega (arith, length-set all n x)) ∙ ap Some (get_or-set_same all n x x h)

get_set_other : {A : Type 0} (all : List A) (i k : ℕ) (x : A) → k ≢ i → slice_get (slice_set all i x) k ≡ slice_get all k
get_set_other all i k x h = elim (cases_lt k (length all)) [
  | inl within ↦ slice_get-get_or (set all i x) k x (omega (arith, length-set all i x)) ∙ ap Some (get_or-set_other all i k x x h) ∙ sym (slice_get-get_or all k x within)
  | inr past ↦ slice_get_past (set all i x) k (omega (arith, length-set all i x)) ∙ sym (slice_get_past all k past)
]

-- Places.

shows_within : {A : Type 0} (all : List A) (o : Option ℕ) (w : Option A) (n : ℕ) → o ≡ Some n → Shows all o w → n < length all
shows_within all None w n e h = cc
shows_within all (Some m) None n e h = absurd h
shows_within all (Some m) (Some x) n e h = slice_get_within all n x (ap (slice_get all) (sym (same e)) ∙ h)
  where
    same : ◌≡◌ {A = Option ℕ} (Some m) (Some n) → m ≡ n
    same q = cc

shows_none : {A : Type 0} (all : List A) (o : Option ℕ) (w : Option A) → w ≡ None → Shows all o w → o ≡ None
shows_none all None w e h = refl
shows_none all (Some m) None e h = absurd h
shows_none all (Some m) (Some x) e h = cc

-- what holds nothing has no place
pub no_place : {A : Type 0} (held : FinMap int_cmp A) (places : FinMap int_cmp ℕ) (all : List A) (q : ℤ) → IsHeld held places all → map.get held q
    ≡ None → map.get places q ≡ None
no_place held places all q is none = shows_none all (map.get places q) (map.get held q) none (is.shows q)

-- what holds something has one, and there it stands
pub record HasPlace {A : Type 0} (held : FinMap int_cmp A) (places : FinMap int_cmp ℕ) (all : List A) (q : ℤ) : Type 0 where
  pub place : ℕ
  pub item : A
  pub placed : map.get places q ≡ Some place
  pub holds : map.get held q ≡ Some item
  pub stands : slice_get all place ≡ Some item

place_by : {A : Type 0} (held : FinMap int_cmp A) (places : FinMap int_cmp ℕ) (all : List A) (q : ℤ) (o : Option ℕ) (w : Option A) → map.get places q
    ≡ o → map.get held q ≡ w → Shows all o w → is_some w ≡ true → HasPlace held places all q
place_by held places all q None None e g h some = cc
place_by held places all q None (Some x) e g h some = absurd h
place_by held places all q (Some n) None e g h some = absurd h
place_by held places all q (Some n) (Some x) e g h some = record { place = n; item = x; placed = e; holds = g; stands = h }

pub a_place : {A : Type 0} (held : FinMap int_cmp A) (places : FinMap int_cmp ℕ) (all : List A) (q : ℤ) → IsHeld held places all
    → map.contains_key held q ≡ true → HasPlace held places all q
a_place held places all q is there = place_by held places all q (map.get places q) (map.get held q) refl refl (is.shows q) there

-- Maps.

pub inserted : {V : Type 0} (m : FinMap int_cmp V) (q : ℤ) (v : V) (r : ℤ) → map.get (map.insert m q v) r ≡ cond (int_eq r q) (Some v) (map.get m r)
inserted m q v r = map.get-insert int_cmp_total m q v r

pub removed_at : {V : Type 0} (m : FinMap int_cmp V) (q r : ℤ) → map.get (map.remove m q) r ≡ cond (int_eq r q) None (map.get m r)
removed_at m q r = map.get-remove int_cmp_total m q r

-- what is put where something stands gives nothing else something
pub free_still : {V : Type 0} (m : FinMap int_cmp V) (q : ℤ) (v : V) (r : ℤ) → map.contains_key m q ≡ true → map.get m r ≡ None
    → map.get (map.insert m q v) r ≡ None
free_still m q v r there none = inserted m q v r ∙ by (int_eq r q) refl
  where
    by : (b : Bool) → int_eq r q ≡ b → cond b (Some v) (map.get m r) ≡ None
    by true e = absurd (true≢false (sym there ∙ ap is_some (ap (map.get m) (sym ((signed_Decides r q).0 e)) ∙ none)))
    by false e = none

pub insert_keys : (m : Iterators) (q : ℤ) → map.contains_key m q ≡ true → map.insert m q (keys_at m q) ≡ m
insert_keys m q there = insert_same m q (keys_at m q) (by (map.get m q) there)
  where
    by : (o : Option Keys) → is_some o ≡ true → o ≡ Some (keys_or_none o)
    by None e = cc
    by (Some keys) e = refl

-- Something is added.

shows_before : {A : Type 0} (all more : List A) (o : Option ℕ) (w : Option A) → Shows all o w → Shows (all ++ more) o w
shows_before all more None None h = tt
shows_before all more None (Some x) h = h
shows_before all more (Some n) None h = h
shows_before all more (Some n) (Some x) h = get_before all more n x h

module _ {A : Type 0} (held : FinMap int_cmp A) (places : FinMap int_cmp ℕ) (all : List A) (is : IsHeld held places all) (q : ℤ) where
  added_shows : (x : A) (r : ℤ) → Shows (all ++ x ∷ []) (map.get (map.insert places q (length all)) r) (map.get (map.insert held q x) r)
  added_shows x r =
      subst (λ o. Shows (all ++ x ∷ []) o (map.get (map.insert held q x) r)) (sym (inserted places q (length all) r))
      (subst (λ w. Shows (all ++ x ∷ []) (cond (int_eq r q) (Some (length all)) (map.get places r)) w) (sym (inserted held q x r)) (by (int_eq r q)))
    where
      by : (b : Bool) → Shows (all ++ x ∷ []) (cond b (Some (length all)) (map.get places r)) (cond b (Some x) (map.get held r))
      by true = get_last all x
      by false = shows_before all (x ∷ []) (map.get places r) (map.get held r) (is.shows r)

  apart_by : (r t : ℤ) (n : ℕ) (b c : Bool) → int_eq r q ≡ b → int_eq t q ≡ c → cond b (Some (length all)) (map.get places r) ≡ Some n
      → cond c (Some (length all)) (map.get places t) ≡ Some n → r ≡ t
  apart_by r t n true true e g h k = (signed_Decides r q).0 e ∙ sym ((signed_Decides t q).0 g)
  apart_by r t n true false e g h k = absurd (past (shows_within all (map.get places t) (map.get held t) n k (is.shows t)))
    where
      past : n < length all → ⊥
      past less = omega (arith, less, last h)
        where
          last : ◌≡◌ {A = Option ℕ} (Some (length all)) (Some n) → length all ≡ n
          last s = cc
  apart_by r t n false true e g h k = absurd (past (shows_within all (map.get places r) (map.get held r) n h (is.shows r)))
    where
      past : n < length all → ⊥
      past less = omega (arith, less, last k)
        where
          last : ◌≡◌ {A = Option ℕ} (Some (length all)) (Some n) → length all ≡ n
          last s = cc
  apart_by r t n false false e g h k = is.apart r t n h k

  pub added : (x : A) → IsHeld (map.insert held q x) (map.insert places q (length all)) (all ++ x ∷ [])
  added x = record {
    shows = added_shows x;
    apart = λ r t n e g. apart_by r t n (int_eq r q) (int_eq t q) refl refl (sym (inserted places q (length all) r) ∙ e) (sym (inserted places q (length all) t) ∙ g);
  }

  -- It is changed.

  changed_other : (n : ℕ) (x : A) (r : ℤ) (o : Option ℕ) (w : Option A) → ((m : ℕ) → o ≡ Some m → m ≢ n) → Shows all o w → Shows (slice_set all n x) o w
  changed_other n x r None None other h = tt
  changed_other n x r None (Some y) other h = h
  changed_other n x r (Some m) None other h = h
  changed_other n x r (Some m) (Some y) other h = get_set_other all n m x (other m refl) ∙ h

  changed_shows : (n : ℕ) (x : A) → map.get places q ≡ Some n → (r : ℤ) → Shows (slice_set all n x) (map.get places r) (map.get (map.insert held q x) r)
  changed_shows n x place r = subst (λ w. Shows (slice_set all n x) (map.get places r) w) (sym (inserted held q x r)) (by (int_eq r q) refl)
    where
      by : (b : Bool) → int_eq r q ≡ b → Shows (slice_set all n x) (map.get places r) (cond b (Some x) (map.get held r))
      by true e = subst (λ o. Shows (slice_set all n x) o (Some x)) (sym (ap (map.get places) ((signed_Decides r q).0 e) ∙ place)) (get_set_same all n x (shows_within all (map.get places q) (map.get held q) n place (is.shows q)))
      by false e = changed_other n x r (map.get places r) (map.get held r) (λ m at same. apart m at same) (is.shows r)
        where
          apart : (m : ℕ) → map.get places r ≡ Some m → m ≡ n → ⊥
          apart m at same = true≢false (sym ((signed_Decides r q).1 (is.apart r q n (at ∙ ap Some same) place)) ∙ e)

  pub changed : (n : ℕ) (x : A) → map.get places q ≡ Some n → IsHeld (map.insert held q x) places (slice_set all n x)
  changed n x place = record { shows = changed_shows n x place; apart = is.apart }

  -- It is let go.

  removed_shows : (r : ℤ) → Shows all (map.get (map.remove places q) r) (map.get (map.remove held q) r)
  removed_shows r =
      subst (λ o. Shows all o (map.get (map.remove held q) r)) (sym (removed_at places q r))
      (subst (λ w. Shows all (cond (int_eq r q) None (map.get places r)) w) (sym (removed_at held q r)) (by (int_eq r q)))
    where
      by : (b : Bool) → Shows all (cond b None (map.get places r)) (cond b None (map.get held r))
      by true = tt
      by false = is.shows r

  still : (r : ℤ) (n : ℕ) (b : Bool) → cond b None (map.get places r) ≡ Some n → map.get places r ≡ Some n
  still r n true e = cc
  still r n false e = e

  pub removed : IsHeld (map.remove held q) (map.remove places q) all
  removed = record {
    shows = removed_shows;
    apart = λ r t n e g. is.apart r t n (still r n (int_eq r q) (sym (removed_at places q r) ∙ e)) (still t n (int_eq t q) (sym (removed_at places q t) ∙ g));
  }
