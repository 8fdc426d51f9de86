-- Rows and ranks.
use Rattle.std.proofs.Common.{◌≡◌, ◌≢◌, ◌⊎◌, ℕ, zero, suc, ◌+◌, ◌<◌, ◌≤◌, ◌++◌, inl, inr, Bool, true, false, cond, List, [], ◌∷◌, length, Option, Some, None, refl, sym, ap, ◌∙◌, subst, arith, set, get_or, length-set, length-append, get_or-set_same, get_or-set_other, nat_le}
use Rattle.std.specs.Prelude.{slice_get}
use Rattle.std.proofs.lemmas.Bool.{cases_eq, cases_lt, leb-false}
use Rattle.std.proofs.lemmas.List.{ext_get_or, get_or_append_left}
use Rattle.ere_match.specs.Threads.{Holds}
use Rattle.ere_match.specs.Rows.{AreRanked, HasRank, IsNumbered, IsRanked, IsRankedTo, cut, numbered, numbers, rank_of, spread, start_of_rank}
use Rattle.ere_match.proofs.Marks.{holds_read, read_holds}

abbrev Set : Type 0
Set = List (Option ℕ)

some_is : (a b : ℕ) → Some a ≡ Some b → a ≡ b
some_is a b e = cc

pub length_numbers : (xs : List ℕ) → length (numbers xs) ≡ length xs
length_numbers [] = refl
length_numbers (zero ∷ xs) = ap suc (length_numbers xs)
length_numbers (suc n ∷ xs) = ap suc (length_numbers xs)

pub length_cut : (limit : ℕ) (xs : Set) → length (cut limit xs) ≡ length xs
length_cut limit [] = refl
length_cut limit (None ∷ xs) = ap suc (length_cut limit xs)
length_cut limit (Some n ∷ xs) = ap suc (length_cut limit xs)

get_cut : (limit : ℕ) (xs : List ℕ) (k : ℕ) → get_or (cut limit (numbers xs)) k None ≡ numbered limit (get_or xs k 0)
get_cut limit [] k = refl
get_cut limit (zero ∷ xs) zero = refl
get_cut limit (suc n ∷ xs) zero = refl
get_cut limit (zero ∷ xs) (suc k) = get_cut limit xs k
get_cut limit (suc n ∷ xs) (suc k) = get_cut limit xs k

pub loaded : (limit : ℕ) (ranks : List ℕ) (set : Set) → length set ≡ length ranks → ((k : ℕ) → k < length ranks → get_or set k None ≡ numbered limit (get_or ranks k 0)) → set ≡ cut limit (numbers ranks)
loaded limit ranks set len h = ext_get_or None set (cut limit (numbers ranks)) (len ∙ sym (length_cut limit (numbers ranks) ∙ length_numbers ranks)) (λ k w. h k (omega (arith, len)) ∙ sym (get_cut limit ranks k))

pub length_spread : (f : ℕ → ℕ) (xs : Set) → length (spread f xs) ≡ length xs
length_spread f [] = refl
length_spread f (None ∷ xs) = ap suc (length_spread f xs)
length_spread f (Some n ∷ xs) = ap suc (length_spread f xs)

get_unload : (starts xs : List ℕ) (k : ℕ) → get_or (spread (λ n. get_or starts n 0) (numbers xs)) k None ≡ start_of_rank starts (get_or xs k 0)
get_unload starts [] k = refl
get_unload starts (zero ∷ xs) zero = refl
get_unload starts (suc n ∷ xs) zero = refl
get_unload starts (zero ∷ xs) (suc k) = get_unload starts xs k
get_unload starts (suc n ∷ xs) (suc k) = get_unload starts xs k

pub unloaded : (starts ranks : List ℕ) (set : Set) → length set ≡ length ranks → ((k : ℕ) → k < length ranks → get_or set k None ≡ start_of_rank starts (get_or ranks k 0)) → set ≡ spread (λ n. get_or starts n 0) (numbers ranks)
unloaded starts ranks set len h = ext_get_or None set (spread (λ n. get_or starts n 0) (numbers ranks)) (len ∙ sym (length_spread (λ n. get_or starts n 0) (numbers ranks) ∙ length_numbers ranks)) (λ k w. h k (omega (arith, len)) ∙ sym (get_unload starts ranks k))

rank_holds : (xs : List ℕ) (k n : ℕ) → get_or xs k 0 ≡ suc n → slice_get (numbers xs) k ≡ Some (Some n)
rank_holds [] k n e = absurd cc
rank_holds (zero ∷ xs) zero n e = absurd cc
rank_holds (suc m ∷ xs) zero n e = ap (λ i. Some (Some i)) (let x : m ≡ n = omega (arith, e) in x)
rank_holds (zero ∷ xs) (suc k) n e = rank_holds xs k n e
rank_holds (suc m ∷ xs) (suc k) n e = rank_holds xs k n e

pub rank_thread : (xs : List ℕ) (k : ℕ) → 0 < get_or xs k 0 → (n : ℕ) × Holds (numbers xs) k n
rank_thread xs k more = by (get_or xs k 0) refl
  where
    by : (r : ℕ) → get_or xs k 0 ≡ r → (n : ℕ) × Holds (numbers xs) k n
    by zero e = absurd (omega (arith, e, more))
    by (suc n) e = (n, record { is = rank_holds xs k n e })

pub holds_rank : (xs : List ℕ) (k n : ℕ) → Holds (numbers xs) k n → 0 < get_or xs k 0
holds_rank [] k n h = absurd (let e = h.is in cc)
holds_rank (zero ∷ xs) zero n h = absurd (let e = h.is in cc)
holds_rank (suc m ∷ xs) zero n h = omega arith
holds_rank (zero ∷ xs) (suc k) n h = holds_rank xs k n (record { is = h.is })
holds_rank (suc m ∷ xs) (suc k) n h = holds_rank xs k n (record { is = h.is })

pub rank_small : (xs : List ℕ) (k bound : ℕ) → ((id s : ℕ) → Holds (numbers xs) id s → s < bound) → get_or xs k 0 ≤ bound
rank_small xs k bound few = by (get_or xs k 0) refl
  where
    by : (r : ℕ) → get_or xs k 0 ≡ r → r ≤ bound
    by zero e = omega arith
    by (suc n) e = (let x = few k n (record { is = rank_holds xs k n e }) in omega (arith, x))

-- ---- the numbers in use

-- a fact of three values is one of their equals
pub at_equals : {X Y Z : Type 0} (P : X → Y → Z → Type 0) (a b : X) (c d : Y) (e f : Z) → b ≡ a → d ≡ c → f ≡ e → P a c e → P b d f
at_equals P a b c d e f p q r h = subst (λ x. P x d f) (sym p) (subst (λ y. P a y f) (sym q) (subst (λ z. P a c z) (sym r) h))

pub ranked_none : (base used : List ℕ) → IsRankedTo 0 base used used base 0
ranked_none base used = record {
  same = record { longer = omega arith; at = λ k below. refl };
  len = refl;
  sum = omega arith;
  few = omega arith;
  increasing = record { up = λ a b less below. absurd (omega arith) };
  below = λ k less. absurd (omega arith);
  ranks = λ s less is. absurd (omega arith);
  rest = λ s _. refl;
}

pub ranked_skip : (n : ℕ) (base used ranked sources : List ℕ) (count : ℕ) → (get_or ranked n 0 ≡ 1 → ⊥) → IsRankedTo n base used ranked sources count → IsRankedTo (n + 1) base used (set ranked n 0) sources count
ranked_skip n base used ranked sources count out r = record {
  same = r.same;
  len = length-set ranked n 0 ∙ r.len;
  sum = r.sum;
  few = omega (arith, r.few);
  increasing = r.increasing;
  below = λ k less. (let b = r.below k less in omega (arith, b));
  ranks = λ s less is. elim (cases_lt s n) [
    | inl before ↦ (let h = r.ranks s before is in record { rank = h.rank; is = get_or-set_other ranked n s 0 0 (λ e. omega arith) ∙ h.is; small = h.small; back = h.back })
    | inr at ↦ (let same : s ≡ n = omega arith in absurd (out (r.rest n (omega arith) ∙ subst (λ m. get_or used m 0 ≡ 1) same is)))
  ];
  rest = λ s above. get_or-set_other ranked n s 0 0 (λ e. omega arith) ∙ r.rest s (omega arith);
}

pub ranked_on : (n : ℕ) (base used ranked sources more : List ℕ) (count : ℕ) → n < length used → more ≡ sources ++ n ∷ [] → IsRankedTo n base used ranked sources count → IsRankedTo (n + 1) base used (set ranked n (count + 1)) more (count + 1)
ranked_on n base used ranked sources more count inside is r =
    let old : (k : ℕ) → k < length sources → get_or more k 0 ≡ get_or sources k 0 = λ k less. ap (λ xs. get_or xs k 0) is ∙ get_or_append_left sources (n ∷ []) 0 k less in
    let last : get_or more (length base + count) 0 ≡ n = ap (λ xs. get_or xs (length base + count) 0) is ∙ at_last sources n (length base + count) r.sum in
    let longer : length more ≡ length sources + 1 = ap length is ∙ length-append sources (n ∷ []) in
    let before : (k : ℕ) → k < count → get_or more (length base + k) 0 ≡ get_or sources (length base + k) 0 = λ k less. old (length base + k) (omega (arith, r.sum)) in record {
      same = record { longer = omega (arith, r.same.longer, longer); at = λ k below. old k (omega (arith, r.same.longer)) ∙ r.same.at k below };
      len = length-set ranked n (count + 1) ∙ r.len;
      sum = omega (arith, r.sum, longer);
      few = omega (arith, r.few);
      increasing = record {
        up = λ a b less below. elim (cases_lt b count) [
          | inl low ↦ (let x = r.increasing.up a b less low in let p = before a (omega arith) in let q = before b low in omega (arith, x, p, q))
          | inr at ↦ (let e : b ≡ count = omega arith in let x = r.below a (omega arith) in let p = before a (omega arith) in let q = subst (λ m. get_or more (length base + m) 0 ≡ n) (sym e) last in omega (arith, x, p, q))
        ];
      };
      below = λ k less. elim (cases_lt k count) [
        | inl low ↦ (let x = r.below k low in let p = before k low in omega (arith, x, p))
        | inr at ↦ (let e : k ≡ count = omega arith in let q = subst (λ m. get_or more (length base + m) 0 ≡ n) (sym e) last in omega (arith, q))
      ];
      ranks = λ s less is'. elim (cases_lt s n) [
        | inl low ↦ (let h = r.ranks s low is' in record { rank = h.rank; is = get_or-set_other ranked n s (count + 1) 0 (λ e. omega arith) ∙ h.is; small = omega (arith, h.small); back = before h.rank h.small ∙ h.back })
        | inr at ↦ (let e : s ≡ n = omega arith in record {
          rank = count;
          is = subst (λ m. get_or (set ranked n (count + 1)) m 0 ≡ suc count) (sym e) (get_or-set_same ranked n (count + 1) 0 (omega (arith, r.len)) ∙ omega arith);
          small = omega arith;
          back = last ∙ sym e;
        })
      ];
      rest = λ s above. get_or-set_other ranked n s (count + 1) 0 (λ e. omega arith) ∙ r.rest s (omega arith);
    }
  where
    at_last : (sources : List ℕ) (n i : ℕ) → length sources ≡ i → get_or (sources ++ n ∷ []) i 0 ≡ n
    at_last [] n i e = subst (λ m. get_or (n ∷ []) m 0 ≡ n) e refl
    at_last (x ∷ sources) n zero e = absurd (omega (arith, e))
    at_last (x ∷ sources) n (suc i) e = at_last sources n i (omega (arith, e))

pub ranked_all : (base used ranked sources : List ℕ) (count n : ℕ) → n ≡ length used → IsRankedTo n base used ranked sources count → IsRanked (length base) used ranked sources count
ranked_all base used ranked sources count n e r = record {
  len = r.len;
  sum = r.sum;
  few = omega (arith, r.few, e);
  increasing = r.increasing;
  below = λ k less. (let b = r.below k less in omega (arith, b, e));
  ranks = λ s less is. r.ranks s (omega (arith, e)) is;
}

-- the threads of a row are spread over what they were numbered from
get_spread : (f : ℕ → ℕ) (xs : List ℕ) (k r : ℕ) → get_or xs k 0 ≡ suc r → get_or (spread f (numbers xs)) k None ≡ Some (f r)
get_spread f [] k r e = absurd (omega (arith, e))
get_spread f (zero ∷ xs) zero r e = absurd (omega (arith, e))
get_spread f (suc n ∷ xs) zero r e = ap (λ m. Some (f m)) (omega (arith, e))
get_spread f (zero ∷ xs) (suc k) r e = get_spread f xs k r e
get_spread f (suc n ∷ xs) (suc k) r e = get_spread f xs k r e

get_none : (f : ℕ → ℕ) (xs : List ℕ) (k : ℕ) → get_or xs k 0 ≡ 0 → get_or (spread f (numbers xs)) k None ≡ None
get_none f [] k e = refl
get_none f (zero ∷ xs) zero e = refl
get_none f (suc n ∷ xs) zero e = absurd (omega (arith, e))
get_none f (zero ∷ xs) (suc k) e = get_none f xs k e
get_none f (suc n ∷ xs) (suc k) e = get_none f xs k e

module _ (start : ℕ) (used ranked sources : List ℕ) (count : ℕ) (set : Set) (ranks : List ℕ) (r : IsRanked start used ranked sources count) (marked : (id s : ℕ) → Holds set id s → get_or used s 0 ≡ 1) (small : (id s : ℕ) → Holds set id s → s < length used) (a : AreRanked ranked set ranks) where
  rank_here : (id s : ℕ) → Holds set id s → HasRank start s ranked sources count
  rank_here id s holds = r.ranks s (small id s holds) (marked id s holds)

  pub spread_is : spread (λ k. get_or sources (start + k) 0) (numbers ranks) ≡ set
  spread_is = sym (ext_get_or None set (spread (λ k. get_or sources (start + k) 0) (numbers ranks)) (sym (length_spread (λ k. get_or sources (start + k) 0) (numbers ranks) ∙ length_numbers ranks ∙ a.len)) (λ k less. by k less (get_or set k None) refl))
    where
      by : (k : ℕ) → k < length set → (o : Option ℕ) → get_or set k None ≡ o → get_or set k None ≡ get_or (spread (λ k. get_or sources (start + k) 0) (numbers ranks)) k None
      by k less None e = e ∙ sym (get_none (λ k. get_or sources (start + k) 0) ranks k (a.at k less ∙ ap (rank_of ranked) e))
      by k less (Some s) e =
          let h = rank_here k s (holds_read set k s less e) in
          e ∙ ap Some (sym h.back) ∙ sym (get_spread (λ k. get_or sources (start + k) 0) ranks k h.rank (a.at k less ∙ ap (rank_of ranked) e ∙ h.is))

  get_number : (xs : List ℕ) (k n : ℕ) → slice_get (numbers xs) k ≡ Some (Some n) → get_or xs k 0 ≡ suc n
  get_number [] k n e = absurd cc
  get_number (zero ∷ xs) zero n e = absurd cc
  get_number (suc m ∷ xs) zero n e = ap suc (inner m n e)
    where
      inner : (a b : ℕ) → Some (Some a) ≡ Some (Some b) → a ≡ b
      inner a b e = cc
  get_number (zero ∷ xs) (suc k) n e = get_number xs k n e
  get_number (suc m ∷ xs) (suc k) n e = get_number xs k n e

  pub few_ranks : (id n : ℕ) → Holds (numbers ranks) id n → n < count
  few_ranks id n holds = by (get_or set id None) refl
    where
      is : get_or ranks id 0 ≡ suc n
      is = get_number ranks id n holds.is

      within : id < length set
      within = elim (cases_lt id (length set)) [
        | inl w ↦ w
        | inr past ↦ absurd (let z : get_or ranks id 0 ≡ 0 = past_zero ranks id (omega (arith, a.len)) in omega (arith, z, is))
      ]
        where
          past_zero : (xs : List ℕ) (k : ℕ) → length xs ≤ k → get_or xs k 0 ≡ 0
          past_zero [] k le = refl
          past_zero (x ∷ xs) zero le = absurd (omega (arith, le))
          past_zero (x ∷ xs) (suc k) le = past_zero xs k (omega (arith, le))

      by : (o : Option ℕ) → get_or set id None ≡ o → n < count
      by None e = absurd (let z : get_or ranks id 0 ≡ 0 = a.at id within ∙ ap (rank_of ranked) e in omega (arith, z, is))
      by (Some s) e = (let h = rank_here id s (holds_read set id s within e) in let z : get_or ranks id 0 ≡ suc h.rank = a.at id within ∙ ap (rank_of ranked) e ∙ h.is in omega (arith, z, is, h.small))

pub numbered_all : (start bound : ℕ) (used ranked sources : List ℕ) (count : ℕ) (set : Set) (ranks : List ℕ) → bound ≡ length used → ((id s : ℕ) → Holds set id s → get_or used s 0 ≡ 1) → ((id s : ℕ) → Holds set id s → s < bound) → IsRanked start used ranked sources count → AreRanked ranked set ranks → IsNumbered start bound set sources ranks count
numbered_all start bound used ranked sources count set ranks e marked small r a =
    let small' : (id s : ℕ) → Holds set id s → s < length used = λ id s h. (let x = small id s h in omega (arith, x, e)) in
    record {
      len = a.len;
      sum = r.sum;
      most = omega (arith, r.few, e);
      few = few_ranks start used ranked sources count set ranks r marked small' a;
      spreads = spread_is start used ranked sources count set ranks r marked small' a;
      increasing = r.increasing;
      below = λ k less. (let x = r.below k less in omega (arith, x, e));
    }

-- a set cut behind all its numbers
pub cut_all : (limit : ℕ) (xs : Set) → ((id s : ℕ) → Holds xs id s → s ≤ limit) → cut limit xs ≡ xs
cut_all limit [] h = refl
cut_all limit (None ∷ xs) h = ap (λ (ys : Set). None ∷ ys) (cut_all limit xs (λ id s holds. h (suc id) s (record { is = holds.is })))
cut_all limit (Some n ∷ xs) h = by (cut_all limit xs (λ id s holds. h (suc id) s (record { is = holds.is }))) (nat_le n limit) refl
  where
    by : cut limit xs ≡ xs → (b : Bool) → nat_le n limit ≡ b → cond b (Some n) None ∷ cut limit xs ≡ Some n ∷ xs
    by rest true e = ap (λ (ys : Set). Some n ∷ ys) rest
    by rest false e = absurd (let l = h zero n (record { is = refl }) in let m = leb-false n limit e in omega (arith, l, m))

-- ---- the numbers that threads have, marked one after another

none_some : (s : ℕ) → None ≡ Some s → ⊥
none_some s e = cc

pub marks_on : (threads : Set) (i n : ℕ) (used next : List ℕ) → get_or threads i None ≡ Some n → n < length used → next ≡ set used n 1 → ((id s : ℕ) → id < i → Holds threads id s → get_or used s 0 ≡ 1) → (id s : ℕ) → id < i + 1 → Holds threads id s → get_or next s 0 ≡ 1
marks_on threads i n used next here room e before id s less h = ap (λ (xs : List ℕ). get_or xs s 0) e ∙ by (cases_eq s n)
  where
    earlier : (s ≢ n) → (id < i) ⊎ (i ≤ id) → id < i
    earlier other (inl low) = low
    earlier other (inr high) = (let same : id ≡ i = omega (arith, less, high) in absurd (other (some_is s n (sym (read_holds threads id s h) ∙ ap (λ (m : ℕ). get_or threads m None) same ∙ here))))

    by : (s ≡ n) ⊎ (s ≢ n) → get_or (set used n 1) s 0 ≡ 1
    by (inl same) = ap (λ (m : ℕ). get_or (set used n 1) m 0) same ∙ get_or-set_same used n 1 0 room
    by (inr other) = get_or-set_other used n s 1 0 other ∙ before id s (earlier other (cases_lt id i)) h

pub marks_past : (threads : Set) (i : ℕ) (used next : List ℕ) → get_or threads i None ≡ None → next ≡ used → ((id s : ℕ) → id < i → Holds threads id s → get_or used s 0 ≡ 1) → (id s : ℕ) → id < i + 1 → Holds threads id s → get_or next s 0 ≡ 1
marks_past threads i used next here e before id s less h = ap (λ (xs : List ℕ). get_or xs s 0) e ∙ before id s (earlier (cases_lt id i)) h
  where
    earlier : (id < i) ⊎ (i ≤ id) → id < i
    earlier (inl low) = low
    earlier (inr high) = (let same : i ≡ id = omega (arith, less, high) in absurd (none_some s (sym here ∙ ap (λ (m : ℕ). get_or threads m None) same ∙ read_holds threads id s h)))
