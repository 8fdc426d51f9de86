-- Elements under numbers as keys, one behind another.
use Rattle.std.proofs.Common.{◌≡◌, ◌≢◌, ℕ, ℤ, ◌+◌, ◌<◌, ◌≤◌, ◌^◌, Bool, true, false, cond, inl, inr, List, [], ◌∷◌, ◌++◌, length, map as map_list, take, get_or, Some, None, is_some, refl, sym, ap, subst, ◌∙◌, arith, decimal}
use Rattle.std.specs.Ordering.{int_cmp, int_eq}
use Rattle.std.specs.Cmp.{int_cmp_total, signed_Decides}
use Rattle.std.specs.FinMap as map
use Rattle.std.specs.FinMap.{FinMap, int_cmp-IsAntisymmetric}
use Rattle.std.proofs.lemmas.Fmt.{decimal_is_IsNumeral}
use Rattle.std.proofs.lemmas.List.{length-map, length-take-le, map_more}
use Rattle.std.specs.Str.Parse.{digits_value}
use Rattle.awk_values.specs.declared.value.Value.TheVariants.{StrNum}
use Rattle.sem_primitives.specs.ArrayMeaning.{numbered}
use Rattle.host_arrays.specs.Pairs.{Pairs, get_pair, is_key, pairs_at, pairs_or_none, set_pair}
use Rattle.host_arrays.proofs.PairLemmas.{cases_key, set_pair-new}
use Rattle.host_values.specs.Forms.{Arrays}
use Rattle.host_values.proofs.Places.{free_still, inserted}
use Rattle.host_values.specs.Calls.{reserved_handle}

-- Keys.

same_number : (m n : ℕ) → m < 2 ^ 64 → n < 2 ^ 64 → decimal m ≡ decimal n → m ≡ n
same_number m n small less same = sym (decimal_is_IsNumeral m small).1 ∙ ap (digits_value 10) same ∙ (decimal_is_IsNumeral n less).1

apart : (m n : ℕ) → m < 2 ^ 64 → n < 2 ^ 64 → m ≢ n → is_key (decimal m) (decimal n) ≡ false
apart m n small less other = elim (cases_key (decimal m) (decimal n)) [ inl same ↦ absurd (other (same_number m n small less same)) | inr told ↦ told.0 ]

absent : (n k : ℕ) (texts : List (List ℕ)) → n + length texts ≤ k → k < 2 ^ 64 → get_pair (decimal k) (numbered n texts) ≡ None
absent n k [] past small = refl
absent n k (text ∷ texts) past small =
    let less : n + 1 + length texts ≤ k = omega arith in
    ap (λ (b : Bool). cond b (Some (StrNum text)) (get_pair (decimal k) (numbered (n + 1) texts))) (apart k n small (omega arith) (omega arith)) ∙ absent (n + 1) k texts less small

numbered_last : (n : ℕ) (texts : List (List ℕ)) (text : List ℕ) → numbered n (texts ++ text ∷ []) ≡ numbered n texts ++ (decimal (n + length texts), StrNum text) ∷ []
numbered_last n [] text = let same : n ≡ n + length {A = List ℕ} [] = omega arith in ap (λ k. (decimal k, StrNum text) ∷ []) same
numbered_last n (first ∷ texts) text =
    let same : n + 1 + length texts ≡ n + length (first ∷ texts) = omega arith in
    ap (λ (ps : Pairs). (decimal n, StrNum first) ∷ ps) (numbered_last (n + 1) texts text ∙ ap (λ k. numbered (n + 1) texts ++ (decimal k, StrNum text) ∷ []) same)

-- the next number goes last
pub set_numbered : (n : ℕ) (texts : List (List ℕ)) (text : List ℕ) → n + length texts < 2 ^ 64
    → set_pair (decimal (n + length texts)) (StrNum text) (numbered n texts) ≡ numbered n (texts ++ text ∷ [])
set_numbered n texts text small =
    set_pair-new (decimal (n + length texts)) (StrNum text) (numbered n texts) (absent n (n + length texts) texts (omega arith) small) ∙ sym (numbered_last n texts text)

-- An array that is put twice.

itself : (a : ℤ) → int_eq a a ≡ true
itself a = (signed_Decides a a).1 refl

pub pairs_put : (arrays : Arrays) (a : ℤ) (ps : Pairs) → pairs_at (map.insert arrays a ps) a ≡ ps
pairs_put arrays a ps = ap pairs_or_none (inserted arrays a ps a ∙ ap (λ b. cond b (Some ps) (map.get arrays a)) (itself a))

pub put_twice : {V : Type 0} (m : FinMap int_cmp V) (q : ℤ) (v w : V) → map.insert (map.insert m q v) q w ≡ map.insert m q w
put_twice m q v w =
    map.same_map int_cmp_total int_cmp-IsAntisymmetric _ _ (λ r. inserted (map.insert m q v) q w r ∙ ap (cond (int_eq r q) (Some w)) (inserted m q v r) ∙ by (int_eq r q) r ∙ sym (inserted m q w r))
  where
    by : (b : Bool) (r : ℤ) → cond b (Some w) (cond b (Some v) (map.get m r)) ≡ cond b (Some w) (map.get m r)
    by true r = refl
    by false r = refl

-- one more text
pub put_next : (base arrays now : Arrays) (a : ℤ) (n : ℕ) (texts : List (List ℕ)) (text : List ℕ) (k : ℕ) → arrays ≡ map.insert base a (numbered n texts) → k ≡ n + length texts → k < 2 ^ 64
    → now ≡ map.insert arrays a (set_pair (decimal k) (StrNum text) (pairs_at arrays a)) → now ≡ map.insert base a (numbered n (texts ++ text ∷ []))
put_next base arrays now a n texts text k held at small put =
    put
    ∙ ap (λ (m : Arrays). map.insert m a (set_pair (decimal k) (StrNum text) (pairs_at m a))) held
    ∙ ap (λ (ps : Pairs). map.insert (map.insert base a (numbered n texts)) a (set_pair (decimal k) (StrNum text) ps)) (pairs_put base a (numbered n texts))
    ∙ ap (λ (j : ℕ). map.insert (map.insert base a (numbered n texts)) a (set_pair (decimal j) (StrNum text) (numbered n texts))) at
    ∙ ap (map.insert (map.insert base a (numbered n texts)) a) (set_numbered n texts text (subst (λ j. j < 2 ^ 64) at small))
    ∙ put_twice base a (numbered n texts) (numbered n (texts ++ text ∷ []))

-- what was put is there
pub there_put : (base arrays : Arrays) (a : ℤ) (ps : Pairs) → arrays ≡ map.insert base a ps → map.contains_key arrays a ≡ true
there_put base arrays a ps put = ap (λ (m : Arrays). map.contains_key m a) put ∙ ap is_some (inserted base a ps a ∙ ap (λ b. cond b (Some ps) (map.get base a)) (itself a))

-- what is put where something stands takes no number that is free
pub free_put : (base arrays : Arrays) (a b : ℤ) (ps : Pairs) → a ≡ b → map.contains_key base b ≡ true → map.get base reserved_handle ≡ None → arrays ≡ map.insert base a ps → map.get arrays reserved_handle ≡ None
free_put base arrays a b ps same there free put =
    ap (λ (m : Arrays). map.get m reserved_handle) put ∙ free_still base a ps reserved_handle (ap (map.contains_key base) same ∙ there) free

-- the number of the next of those that were put
pub next_count : {X Y : Type 0} (f : X → Y) (xs : List X) (i : ℕ) → i < length xs → i + 1 ≡ 1 + length (map_list f (take i xs))
next_count f xs i within = let same = length-map (take i xs) f ∙ length-take-le i xs (omega arith) in omega arith

-- one more of those that a function gives
pub put_more : {X : Type 0} (f : X → List ℕ) (base arrays now : Arrays) (a : ℤ) (xs : List X) (i : ℕ) (d : X) (text : List ℕ) → arrays ≡ map.insert base a (numbered 1 (map_list f (take i xs))) → i < length xs
    → i + 1 < 2 ^ 64 → text ≡ f (get_or xs i d) → now ≡ map.insert arrays a (set_pair (decimal (i + 1)) (StrNum text) (pairs_at arrays a)) → now ≡ map.insert base a (numbered 1 (map_list f (take (i + 1) xs)))
put_more f base arrays now a xs i d text held within small is put =
    put_next base arrays now a 1 (map_list f (take i xs)) text (i + 1) held (next_count f xs i within) small put
    ∙ ap (λ (t : List ℕ). map.insert base a (numbered 1 (map_list f (take i xs) ++ t ∷ []))) is
    ∙ ap (λ (ts : List (List ℕ)). map.insert base a (numbered 1 ts)) (sym (map_more f xs i d within))
