-- Numbers of variables, as variables are added.
use Rattle.std.proofs.Common.{◌≡◌, ℕ, zero, suc, Bool, true, false, List, [], ◌∷◌, ◌++◌, map, Option, Some, refl, ap, sym, ◌∙◌, append_assoc, if◌then◌else◌}
use Rattle.std.specs.List.{slice_get, list_any}
use Rattle.std.proofs.lemmas.List.{map-append}
use Rattle.awk_grammar.specs.Marks.{Kind, Mark, Defined, Parameter, Used, Called, Computed, Given}
use Rattle.awk_grammar.specs.Kinds.{Key, Head, same_key, same_kind, with_key, used, members, specials_of, Whole, pairs, key_in, parameter_at, pair_of}
use Rattle.awk_resolve.specs.Numbered.{AreNumbers, ArePairs, both_at, both_some}

get_append : (ks ls : List Key) (n : ℕ) (k : Key) → slice_get ks n ≡ Some k → slice_get (ks ++ ls) n ≡ Some k
get_append [] ls n k h = absurd (cc)
get_append (x ∷ ks) ls zero k h = h
get_append (x ∷ ks) ls (suc n) k h = get_append ks ls n k h

get_by : (b : Bool) (ks : List Key) (l : Key) (n : ℕ) (k : Key) → slice_get ks n ≡ Some k → slice_get (if b then ks else ks ++ l ∷ []) n ≡ Some k
get_by true ks l n k h = h
get_by false ks l n k h = get_append ks (l ∷ []) n k h

pub get_with_key : (ks : List Key) (l : Key) (n : ℕ) (k : Key) → slice_get ks n ≡ Some k → slice_get (with_key ks l) n ≡ Some k
get_with_key ks l n k h = get_by (list_any (same_key l) ks) ks l n k h

cons_both : {A : Type 0} (x y : A) (xs ys : List A) → x ≡ y → xs ≡ ys → (x ∷ xs) ≡ (y ∷ ys)
cons_both x y xs ys e f = cc

-- numbers stay those of their variables as others are added
numbers_stay : (keys : List Key) (l : Key) (ns : List ℕ) (ks : List Key) → AreNumbers keys ns ks → AreNumbers (with_key keys l) ns ks
numbers_stay keys l [] [] h = refl
numbers_stay keys l [] (k ∷ ks) h = absurd (cc)
numbers_stay keys l (n ∷ ns) [] h = absurd (cc)
numbers_stay keys l (n ∷ ns) (k ∷ ks) h =
    let head : slice_get keys n ≡ Some k = cc in
    let tail : map (slice_get keys) ns ≡ map Some ks = cc in
    cons_both (slice_get (with_key keys l) n) (Some k) (map (slice_get (with_key keys l)) ns) (map Some ks) (get_with_key keys l n k head) (numbers_stay keys l ns ks tail)

one_more_number : (keys : List Key) (ns : List ℕ) (n : ℕ) (ks : List Key) (k : Key) → slice_get keys n ≡ Some k → AreNumbers keys ns ks → AreNumbers keys (ns ++ n ∷ []) (ks ++ k ∷ [])
one_more_number keys ns n ks k at h =
    map-append (slice_get keys) ns (n ∷ []) ∙ ap (λ (u : List (Option Key)). u ++ slice_get keys n ∷ []) h ∙ ap (λ (u : Option Key). map Some ks ++ u ∷ []) at ∙ sym (map-append Some ks (k ∷ []))

pub pairs_stay : (keys : List Key) (l : Key) (ps : List (ℕ × ℕ)) (qs : List (Key × Key)) → ArePairs keys ps qs → ArePairs (with_key keys l) ps qs
pairs_stay keys l [] [] h = refl
pairs_stay keys l [] (q ∷ qs) h = absurd (cc)
pairs_stay keys l (p ∷ ps) [] h = absurd (cc)
pairs_stay keys l (p ∷ ps) (q ∷ qs) h =
    let head : both_at keys p ≡ both_some q = cc in
    let tail : map (both_at keys) ps ≡ map both_some qs = cc in
    let first = get_with_key keys l p.0 q.0 (ap (λ (u : Option Key × Option Key). u.0) head) in
    let second = get_with_key keys l p.1 q.1 (ap (λ (u : Option Key × Option Key). u.1) head) in
    cons_both (both_at (with_key keys l) p) (both_some q) (map (both_at (with_key keys l)) ps) (map both_some qs) (λ i. (first i, second i)) (pairs_stay keys l ps qs tail)

pub one_more_pair : (keys : List Key) (ps : List (ℕ × ℕ)) (n m : ℕ) (qs : List (Key × Key)) (k l : Key) → slice_get keys n ≡ Some k → slice_get keys m ≡ Some l → ArePairs keys ps qs → ArePairs keys (ps ++ (n, m) ∷ []) (qs ++ (k, l) ∷ [])
one_more_pair keys ps n m qs k l f g h =
    map-append (both_at keys) ps ((n, m) ∷ []) ∙ ap (λ (u : List (Option Key × Option Key)). u ++ both_at keys (n, m) ∷ []) h ∙ (λ i. map both_some qs ++ (f i, g i) ∷ []) ∙ sym (map-append both_some qs ((k, l) ∷ []))

-- Marks, one after another.

used_append : (kind : Kind) (hs : List Head) (ms ns : List Mark) → used kind hs (ms ++ ns) ≡ used kind hs ms ++ used kind hs ns
used_append kind hs [] ns = refl
used_append kind hs (Defined f ∷ ms) ns = used_append kind hs ms ns
used_append kind hs (Parameter f x ∷ ms) ns = used_append kind hs ms ns
used_append kind hs (Used k place x ∷ ms) ns = by (same_kind kind k) (used_append kind hs ms ns)
  where
    by : (b : Bool) → used kind hs (ms ++ ns) ≡ used kind hs ms ++ used kind hs ns → (if b then key_in hs place x ∷ used kind hs (ms ++ ns) else used kind hs (ms ++ ns)) ≡ (if b then key_in hs place x ∷ used kind hs ms else used kind hs ms) ++ used kind hs ns
    by true e = ap (λ (u : List Key). key_in hs place x ∷ u) e
    by false e = e
used_append kind hs (Called f n ∷ ms) ns = used_append kind hs ms ns
used_append kind hs (Computed f i ∷ ms) ns = used_append kind hs ms ns
used_append kind hs (Given f i place x ∷ ms) ns = used_append kind hs ms ns

pub members_append : (kind : Kind) (hs : List Head) (ms ns : List Mark) → members kind hs (ms ++ ns) ≡ members kind hs ms ++ used kind hs ns
members_append kind hs ms ns = ap (λ (u : List Key). map Whole (specials_of kind) ++ u) (used_append kind hs ms ns) ∙ sym (append_assoc (map Whole (specials_of kind)) (used kind hs ms) (used kind hs ns))

pub pairs_append : (hs : List Head) (ms ns : List Mark) → pairs hs (ms ++ ns) ≡ pairs hs ms ++ pairs hs ns
pairs_append hs [] ns = refl
pairs_append hs (Defined f ∷ ms) ns = pairs_append hs ms ns
pairs_append hs (Parameter f x ∷ ms) ns = pairs_append hs ms ns
pairs_append hs (Used k place x ∷ ms) ns = pairs_append hs ms ns
pairs_append hs (Called f n ∷ ms) ns = pairs_append hs ms ns
pairs_append hs (Computed f i ∷ ms) ns = pairs_append hs ms ns
pairs_append hs (Given f i place x ∷ ms) ns = let q = pair_of (key_in hs place x) (parameter_at hs f i) in ap (λ (u : List (Key × Key)). q ++ u) (pairs_append hs ms ns) ∙ sym (append_assoc q (pairs hs ms) (pairs hs ns))

-- What one variable more does to the numbers.

pub numbers_same : (keys : List Key) (k : Key) (ns ms : List ℕ) (ks : List Key) → ms ≡ ns → AreNumbers keys ns ks → AreNumbers (with_key keys k) ms ks
numbers_same keys k ns ms ks e h = ap (map (slice_get (with_key keys k))) e ∙ numbers_stay keys k ns ks h

pub numbers_more : (keys : List Key) (k : Key) (n : ℕ) (ns ms : List ℕ) (ks : List Key) → slice_get (with_key keys k) n ≡ Some k → ms ≡ ns ++ n ∷ [] → AreNumbers keys ns ks → AreNumbers (with_key keys k) ms (ks ++ k ∷ [])
numbers_more keys k n ns ms ks at e h = ap (map (slice_get (with_key keys k))) e ∙ one_more_number (with_key keys k) ns n ks k at (numbers_stay keys k ns ks h)

pub pairs_same : (keys : List Key) (k : Key) (ps rs : List (ℕ × ℕ)) (qs : List (Key × Key)) → rs ≡ ps → ArePairs keys ps qs → ArePairs (with_key keys k) rs qs
pairs_same keys k ps rs qs e h = ap (map (both_at (with_key keys k))) e ∙ pairs_stay keys k ps qs h
