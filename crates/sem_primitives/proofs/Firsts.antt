-- The first match is the leftmost, and of these the longest.
use Rattle.std.proofs.Common.{◌≡◌, ◌⊎◌, inl, inr, ℕ, zero, suc, ◌+◌, ◌-◌, ◌<◌, ◌≤◌, ◌==◌, ◌||◌, nat_le, min, max, Bool, true, false, List, [], ◌∷◌, length, slice_get, Option, Some, None, is_some, refl, sym, ap, subst, ◌∙◌, true≢false, arith, eqb-true, eq-eqb, leb-true, leb-false, le-leb}
use Rattle.ere_syntax.specs.Tree.{Bytes, Tree, Empty, Set, Start, End, Group, Repeat, Concat, Or}
use Rattle.ere_syntax.specs.Matches.{Iterated, IsAllowed, Matches}
use Rattle.ere_syntax.proofs.Meaning.{matches_inside}
use Rattle.sem_primitives.specs.Texts.{has}
use Rattle.sem_primitives.specs.FirstMatch.{unless_there, added, united, each, only_if, is_in, in_set, turned, closed, only_when, repeated, ends, greater, greatest, longest, or_next, first_by, first_match, has_match}
use Rattle.ere_syntax.specs.FirstMatch.{IsFirstMatch, IsMatch}

-- Sets of places.

abbrev In : ℕ → List ℕ → Type 0
In n [] = ⊥
In n (m ∷ ms) = (n ≡ m) ⊎ In n ms

one_true : (a b : Bool) → (a || b) ≡ true → (a ≡ true) ⊎ (b ≡ true)
one_true true b e = inl refl
one_true false b e = inr e

has_in : (n : ℕ) (ns : List ℕ) → has n ns ≡ true → In n ns
has_in n [] e = absurd (true≢false (sym e))
has_in n (m ∷ ms) e = elim (one_true (n == m) (has n ms) e) [ inl x ↦ inl (eqb-true n m x) | inr y ↦ inr (has_in n ms y) ]

added_by : (b : Bool) (k n : ℕ) (ns : List ℕ) → In k (unless_there b n ns) → (k ≡ n) ⊎ In k ns
added_by true k n ns h = inr h
added_by false k n ns h = h

added_new : (n : ℕ) (ns : List ℕ) (b : Bool) → has n ns ≡ b → In n (unless_there b n ns)
added_new n ns true e = has_in n ns e
added_new n ns false e = inl refl

added_old : (b : Bool) (k n : ℕ) (ns : List ℕ) → In k ns → In k (unless_there b n ns)
added_old true k n ns h = h
added_old false k n ns h = inr h

united_from : (ms ns : List ℕ) (k : ℕ) → In k (united ms ns) → In k ms ⊎ In k ns
united_from [] ns k h = inr h
united_from (m ∷ ms) ns k h = elim (added_by (has m (united ms ns)) k m (united ms ns) h) [ inl e ↦ inl (inl e) | inr r ↦ elim (united_from ms ns k r) [ inl a ↦ inl (inr a) | inr b ↦ inr b ] ]

united_left : (ms ns : List ℕ) (k : ℕ) → In k ms → In k (united ms ns)
united_left [] ns k h = absurd h
united_left (m ∷ ms) ns k (inl e) = subst (λ x. In x (added m (united ms ns))) (sym e) (added_new m (united ms ns) (has m (united ms ns)) refl)
united_left (m ∷ ms) ns k (inr r) = added_old (has m (united ms ns)) k m (united ms ns) (united_left ms ns k r)

united_right : (ms ns : List ℕ) (k : ℕ) → In k ns → In k (united ms ns)
united_right [] ns k h = h
united_right (m ∷ ms) ns k h = added_old (has m (united ms ns)) k m (united ms ns) (united_right ms ns k h)

each_from : (f : ℕ → List ℕ) (ns : List ℕ) (k : ℕ) → In k (each f ns) → (i : ℕ) × In i ns × In k (f i)
each_from f [] k h = absurd h
each_from f (n ∷ ns) k h = elim (united_from (f n) (each f ns) k h) [ inl a ↦ (n, inl refl, a) | inr b ↦ (let r = each_from f ns k b in (r.0, inr r.1, r.2)) ]

each_to : (f : ℕ → List ℕ) (ns : List ℕ) (k i : ℕ) → In i ns → In k (f i) → In k (each f ns)
each_to f [] k i h x = absurd h
each_to f (n ∷ ns) k i (inl e) x = united_left (f n) (each f ns) k (subst (λ y. In k (f y)) e x)
each_to f (n ∷ ns) k i (inr r) x = united_right (f n) (each f ns) k (each_to f ns k i r x)

only_from : (b : Bool) (n k : ℕ) → In k (only_if b n) → (b ≡ true) × (k ≡ n)
only_from true n k (inl e) = (refl, e)
only_from true n k (inr x) = absurd x
only_from false n k h = absurd h

only_to : (b : Bool) (n k : ℕ) → b ≡ true → n ≡ k → In k (only_if b n)
only_to true n k e q = inl (sym q)
only_to false n k e q = absurd (true≢false (sym e))

-- Turns.

abbrev IsSound : (ℕ → ℕ → Type 0) → (List ℕ → List ℕ) → Type 0
IsSound R step = (ns : List ℕ) (k : ℕ) → In k (step ns) → (i : ℕ) × In i ns × R i k

abbrev IsFull : (ℕ → ℕ → Type 0) → (List ℕ → List ℕ) → Type 0
IsFull R step = (ns : List ℕ) (i k : ℕ) → In i ns → R i k → In k (step ns)

abbrev IsUpward : (ℕ → ℕ → Type 0) → Type 0
IsUpward R = (i j : ℕ) → R i j → i ≤ j

turned_from : (R : ℕ → ℕ → Type 0) (step : List ℕ → List ℕ) → IsSound R step → (n : ℕ) (ns : List ℕ) (k : ℕ) → In k (turned n step ns) → (i : ℕ) × In i ns × Iterated R n i k
turned_from R step sound zero ns k h = (k, h, refl)
turned_from R step sound (suc n) ns k h =
    let r = turned_from R step sound n (step ns) k h in
    let s = sound ns r.0 r.1 in
    (s.0, s.1, (r.0, s.2, r.2))

turned_to : (R : ℕ → ℕ → Type 0) (step : List ℕ → List ℕ) → IsFull R step → (n : ℕ) (ns : List ℕ) (i k : ℕ) → In i ns → Iterated R n i k → In k (turned n step ns)
turned_to R step full zero ns i k h e = subst (λ x. In x ns) e h
turned_to R step full (suc n) ns i k h m = turned_to R step full n (step ns) m.0 k (full ns i m.0 h m.1) m.2

closed_from : (R : ℕ → ℕ → Type 0) (step : List ℕ → List ℕ) → IsSound R step → (n : ℕ) (ns : List ℕ) (k : ℕ) → In k (closed n step ns) → (i : ℕ) × (m : ℕ) × In i ns × (m ≤ n) × Iterated R m i k
closed_from R step sound zero ns k h = (k, 0, h, omega arith, refl)
closed_from R step sound (suc n) ns k h =
    let r = closed_from R step sound n (united (step ns) ns) k h in
    elim (united_from (step ns) ns r.0 r.2) [
      | inl a ↦ (let s = sound ns r.0 a in (s.0, suc r.1, s.1, omega (arith, r.3), (r.0, s.2, r.4)))
      | inr b ↦ (r.0, r.1, b, omega (arith, r.3), r.4)
    ]

closed_to : (R : ℕ → ℕ → Type 0) (step : List ℕ → List ℕ) → IsFull R step → (n : ℕ) (ns : List ℕ) (i k m : ℕ) → In i ns → m ≤ n → Iterated R m i k → In k (closed n step ns)
closed_to R step full zero ns i k zero h le e = subst (λ x. In x ns) e h
closed_to R step full zero ns i k (suc m) h le e = absurd (omega (arith, le))
closed_to R step full (suc n) ns i k zero h le e = closed_to R step full n (united (step ns) ns) i k zero (united_right (step ns) ns i h) (omega arith) e
closed_to R step full (suc n) ns i k (suc m) h le e = closed_to R step full n (united (step ns) ns) e.0 k m (united_left (step ns) ns e.0 (full ns i e.0 h e.1)) (omega (arith, le)) e.2

add_turns : (R : ℕ → ℕ → Type 0) (a b i k j : ℕ) → Iterated R a i k → Iterated R b k j → Iterated R (a + b) i j
add_turns R zero b i k j p q = let e : b ≡ 0 + b = omega arith in subst (λ c. Iterated R c i j) e (subst (λ k. Iterated R b k j) (sym p) q)
add_turns R (suc a) b i k j p q = let e : suc (a + b) ≡ suc a + b = omega arith in subst (λ c. Iterated R c i j) e (p.0, p.1, add_turns R a b p.0 k j p.2 q)

cut_turns : (R : ℕ → ℕ → Type 0) (a b c i j : ℕ) → c ≡ a + b → Iterated R c i j → (k : ℕ) × Iterated R a i k × Iterated R b k j
cut_turns R zero b c i j e p = (i, refl, (let q : c ≡ b = omega (arith, e) in subst (λ c. Iterated R c i j) q p))
cut_turns R (suc a) b zero i j e p = absurd (omega (arith, e))
cut_turns R (suc a) b (suc c) i j e p = let r = cut_turns R a b c p.0 j (omega (arith, e)) p.2 in (r.0, (p.0, p.1, r.1), r.2)

same_or_less : (i j : ℕ) → i ≤ j → (i ≡ j) ⊎ (i < j)
same_or_less i j le = by (nat_le j i) refl
  where
    by : (b : Bool) → nat_le j i ≡ b → (i ≡ j) ⊎ (i < j)
    by true e = inl (omega (arith, le, leb-true j i e))
    by false e = inr (leb-false j i e)

-- turns that stay where they are can be left out
shortened : (R : ℕ → ℕ → Type 0) → IsUpward R → (m i k : ℕ) → Iterated R m i k → (n : ℕ) × (n ≤ m) × (n + i ≤ k) × Iterated R n i k
shortened R up zero i k e = (0, omega arith, omega (arith, e), e)
shortened R up (suc m) i k x =
    let r = shortened R up m x.0 k x.2 in
    elim (same_or_less i x.0 (up i x.0 x.1)) [
      | inl e ↦ (r.0, omega (arith, r.1), omega (arith, r.2, e), subst (λ y. Iterated R r.0 y k) (sym e) r.3)
      | inr less ↦ (suc r.0, omega (arith, r.1), omega (arith, r.2, less), (x.0, x.1, r.3))
    ]

when_from : (b : Bool) (ns : List ℕ) (k : ℕ) → In k (only_when b ns) → (b ≡ true) × In k ns
when_from true ns k h = (refl, h)
when_from false ns k h = absurd h

when_to : (b : Bool) (ns : List ℕ) (k : ℕ) → b ≡ true → In k ns → In k (only_when b ns)
when_to true ns k e h = h
when_to false ns k e h = absurd (true≢false (sym e))

abbrev FromSome : (ℕ → ℕ → Type 0) → ℕ → Option ℕ → List ℕ → ℕ → Type 0
FromSome R low high ns k = (i : ℕ) × In i ns × (n : ℕ) × IsAllowed low high n × Iterated R n i k

repeated_from : (R : ℕ → ℕ → Type 0) (step : List ℕ → List ℕ) → IsSound R step → (low : ℕ) (high : Option ℕ) (size : ℕ) (ns : List ℕ) (k : ℕ) → In k (repeated low high size step ns) → FromSome R low high ns k
repeated_from R step sound low None size ns k h =
    let c = closed_from R step sound size (turned low step ns) k h in
    let t = turned_from R step sound low ns c.0 c.2 in
    (t.0, t.1, low + c.1, omega arith, add_turns R low c.1 t.0 c.0 k t.2 c.4)
repeated_from R step sound low (Some high) size ns k h =
    let w = when_from (nat_le low high) (closed (min (high - low) size) step (turned low step ns)) k h in
    let c = closed_from R step sound (min (high - low) size) (turned low step ns) k w.1 in
    let t = turned_from R step sound low ns c.0 c.2 in
    (t.0, t.1, low + c.1, (omega arith, omega (arith, c.3, leb-true low high w.0)), add_turns R low c.1 t.0 c.0 k t.2 c.4)

repeated_to : (R : ℕ → ℕ → Type 0) (step : List ℕ → List ℕ) → IsFull R step → IsUpward R → (low : ℕ) (high : Option ℕ) (size : ℕ) (ns : List ℕ) (i k n : ℕ) → In i ns → IsAllowed low high n → Iterated R n i k → k ≤ size → In k (repeated low high size step ns)
repeated_to R step full up low None size ns i k n h a m le =
    let c = cut_turns R low (n - low) n i k (omega (arith, a)) m in
    let s = shortened R up (n - low) c.0 k c.2 in
    closed_to R step full size (turned low step ns) c.0 k s.0 (turned_to R step full low ns i c.0 h c.1) (omega (arith, s.2, le)) s.3
repeated_to R step full up low (Some high) size ns i k n h a m le =
    let c = cut_turns R low (n - low) n i k (omega (arith, a.0)) m in
    let s = shortened R up (n - low) c.0 k c.2 in
    when_to (nat_le low high) (closed (min (high - low) size) step (turned low step ns)) k (le-leb low high (omega (arith, a.0, a.1)))
    (closed_to R step full (min (high - low) size) (turned low step ns) c.0 k s.0 (turned_to R step full low ns i c.0 h c.1) (omega (arith, s.1, s.2, le, a.1)) s.3)

-- Bytes.

some_true : (o : Option Bool) → is_in o ≡ true → o ≡ Some true
some_true None e = absurd (true≢false (sym e))
some_true (Some b) e = ap Some e

set_from : (s : Bytes) (o : Option ℕ) → in_set s o ≡ true → (c : ℕ) × (o ≡ Some c) × (slice_get s c ≡ Some true)
set_from s None e = absurd (true≢false (sym e))
set_from s (Some c) e = (c, refl, some_true (slice_get s c) e)

set_to : (s : Bytes) (o : Option ℕ) (c : ℕ) → o ≡ Some c → slice_get s c ≡ Some true → in_set s o ≡ true
set_to s o c p q = ap (in_set s) p ∙ ap is_in q

-- The places that an expression reaches.

up : (t : Tree) (text : List ℕ) → IsUpward (Matches t text)
up t text i j m = (matches_inside t text i j m).0

ends_from : (t : Tree) (text : List ℕ) (ns : List ℕ) (k : ℕ) → In k (ends t text ns) → (i : ℕ) × In i ns × Matches t text i k
ends_from Empty text ns k h =
    let r = each_from (λ i. only_if (nat_le i (length text)) i) ns k h in
    let o = only_from (nat_le r.0 (length text)) r.0 k r.2 in
    (r.0, r.1, (sym o.1, leb-true r.0 (length text) o.0))
ends_from (Set s) text ns k h =
    let r = each_from (λ i. only_if (in_set s (slice_get text i)) (i + 1)) ns k h in
    let o = only_from (in_set s (slice_get text r.0)) (r.0 + 1) k r.2 in
    let c = set_from s (slice_get text r.0) o.0 in
    (r.0, r.1, (c.0, c.1, c.2, sym o.1))
ends_from Start text ns k h =
    let r = each_from (λ i. only_if (i == 0) i) ns k h in
    let o = only_from (r.0 == 0) r.0 k r.2 in
    (r.0, r.1, (eqb-true r.0 0 o.0, sym o.1))
ends_from End text ns k h =
    let r = each_from (λ i. only_if (i == length text) i) ns k h in
    let o = only_from (r.0 == length text) r.0 k r.2 in
    (r.0, r.1, (eqb-true r.0 (length text) o.0, sym o.1))
ends_from (Group t) text ns k h = ends_from t text ns k h
ends_from (Repeat t low high) text ns k h =
    let e = each_from (λ i. only_if (nat_le i (length text)) i) (repeated low high (length text) (ends t text) ns) k h in
    let o = only_from (nat_le e.0 (length text)) e.0 k e.2 in
    let r = repeated_from (Matches t text) (ends t text) (λ ns k h. ends_from t text ns k h) low high (length text) ns e.0 e.1 in
    let s = shortened (Matches t text) (up t text) r.2 r.0 e.0 r.4 in
    (r.0, r.1, (r.2, r.3, subst (λ x. Iterated (Matches t text) r.2 r.0 x) (sym o.1) r.4, omega (arith, s.2, leb-true e.0 (length text) o.0)))
ends_from (Concat a b) text ns k h =
    let r = ends_from b text (ends a text ns) k h in
    let s = ends_from a text ns r.0 r.1 in
    (s.0, s.1, (r.0, s.2, r.2))
ends_from (Or a b) text ns k h = elim (united_from (ends a text ns) (ends b text ns) k h) [
  | inl x ↦ (let r = ends_from a text ns k x in (r.0, r.1, inl r.2))
  | inr y ↦ (let r = ends_from b text ns k y in (r.0, r.1, inr r.2))
]

ends_to : (t : Tree) (text : List ℕ) (ns : List ℕ) (i k : ℕ) → In i ns → Matches t text i k → In k (ends t text ns)
ends_to Empty text ns i k h m = each_to (λ i. only_if (nat_le i (length text)) i) ns k i h (only_to (nat_le i (length text)) i k (le-leb i (length text) m.1) m.0)
ends_to (Set s) text ns i k h m = each_to (λ i. only_if (in_set s (slice_get text i)) (i + 1)) ns k i h (only_to (in_set s (slice_get text i)) (i + 1) k (set_to s (slice_get text i) m.0 m.1 m.2) m.3)
ends_to Start text ns i k h m = each_to (λ i. only_if (i == 0) i) ns k i h (only_to (i == 0) i k (eq-eqb i 0 m.0) m.1)
ends_to End text ns i k h m = each_to (λ i. only_if (i == length text) i) ns k i h (only_to (i == length text) i k (eq-eqb i (length text) m.0) m.1)
ends_to (Group t) text ns i k h m = ends_to t text ns i k h m
ends_to (Repeat t low high) text ns i k h m =
    let inside = matches_inside (Repeat t low high) text i k m in
    each_to (λ i. only_if (nat_le i (length text)) i) (repeated low high (length text) (ends t text) ns) k k
    (repeated_to (Matches t text) (ends t text) (λ ns i k h m. ends_to t text ns i k h m) (up t text) low high (length text) ns i k m.0 h m.1 m.2 inside.1)
    (only_to (nat_le k (length text)) k k (le-leb k (length text) inside.1) refl)
ends_to (Concat a b) text ns i k h m = ends_to b text (ends a text ns) m.0 k (ends_to a text ns i m.0 h m.1) m.2
ends_to (Or a b) text ns i k h m = elim m [
  | inl x ↦ united_left (ends a text ns) (ends b text ns) k (ends_to a text ns i k h x)
  | inr y ↦ united_right (ends a text ns) (ends b text ns) k (ends_to b text ns i k h y)
]

-- The greatest of them.

abbrev IsGreatest : Option ℕ → List ℕ → Type 0
IsGreatest None ns = (k : ℕ) → In k ns → ⊥
IsGreatest (Some m) ns = In m ns × ((k : ℕ) → In k ns → k ≤ m)

greater_by : (b : Bool) (n m : ℕ) (ns : List ℕ) → nat_le n m ≡ b → In m ns → In (max n m) (n ∷ ns)
greater_by true n m ns e h = let q : m ≡ max n m = omega (arith, leb-true n m e) in inr (subst (λ x. In x ns) q h)
greater_by false n m ns e h = inl (omega (arith, leb-false n m e))

greatest_by : (n : ℕ) (ns : List ℕ) (o : Option ℕ) → IsGreatest o ns → IsGreatest (Some (greater n o)) (n ∷ ns)
greatest_by n ns None g = (inl refl, λ k h. elim h [ inl e ↦ omega (arith, e) | inr r ↦ absurd (g k r) ])
greatest_by n ns (Some m) g = (greater_by (nat_le n m) n m ns refl g.0, λ k h. elim h [ inl e ↦ omega (arith, e) | inr r ↦ (let le = g.1 k r in omega (arith, le)) ])

greatest_is : (ns : List ℕ) → IsGreatest (greatest ns) ns
greatest_is [] = λ k h. h
greatest_is (n ∷ ns) = greatest_by n ns (greatest ns) (greatest_is ns)

abbrev IsLongest : Tree → List ℕ → ℕ → Option ℕ → Type 0
IsLongest t text at None = (j : ℕ) → Matches t text at j → ⊥
IsLongest t text at (Some m) = Matches t text at m × ((j : ℕ) → Matches t text at j → j ≤ m)

only_one : (t : Tree) (text : List ℕ) (at i m : ℕ) → In i (at ∷ []) → Matches t text i m → Matches t text at m
only_one t text at i m (inl e) h = subst (λ x. Matches t text x m) e h
only_one t text at i m (inr x) h = absurd x

longest_by : (t : Tree) (text : List ℕ) (at : ℕ) (o : Option ℕ) → IsGreatest o (ends t text (at ∷ [])) → IsLongest t text at o
longest_by t text at None g = λ j m. g j (ends_to t text (at ∷ []) at j (inl refl) m)
longest_by t text at (Some m) g =
    ((let r = ends_from t text (at ∷ []) m g.0 in only_one t text at r.0 m r.1 r.2), λ j x. g.1 j (ends_to t text (at ∷ []) at j (inl refl) x))

longest_is : (t : Tree) (text : List ℕ) (at : ℕ) → IsLongest t text at (longest t text at)
longest_is t text at = longest_by t text at (longest t text at) (greatest_is (ends t text (at ∷ [])))

-- The first place that has one.

earlier : (t : Tree) (text : List ℕ) (at : ℕ) (o : Option (ℕ × ℕ)) → ((j : ℕ) → Matches t text at j → ⊥) → IsFirstMatch t text (at + 1) o → IsFirstMatch t text at o
earlier t text at None none f = λ i j above m. elim (same_or_less at i above) [
  | inl e ↦ none j (subst (λ x. Matches t text x j) (sym e) m)
  | inr less ↦ f i j (omega (arith, less)) m
]
earlier t text at (Some p) none f = record {
  above = (let le = f.above in omega (arith, le));
  matches = f.matches;
  least = λ i j above m. elim (same_or_less at i above) [
    | inl e ↦ absurd (none j (subst (λ x. Matches t text x j) (sym e) m))
    | inr less ↦ f.least i j (omega (arith, less)) m
  ];
  greatest = f.greatest;
}

next_is : (t : Tree) (text : List ℕ) (at : ℕ) (next : ℕ → Option (ℕ × ℕ)) (o : Option ℕ) → IsLongest t text at o → IsFirstMatch t text (at + 1) (next (at + 1)) → IsFirstMatch t text at (or_next o at next)
next_is t text at next (Some m) h f = record { above = omega arith; matches = h.0; least = λ i j above x. above; greatest = h.1 }
next_is t text at next None h f = earlier t text at (next (at + 1)) h f

first_is : (t : Tree) (text : List ℕ) (n at : ℕ) → length text + 1 ≤ n + at → IsFirstMatch t text at (first_by (longest t text) n at)
first_is t text zero at le = λ i j above m. (let inside = matches_inside t text i j m in absurd (omega (arith, le, above, inside.0, inside.1)))
first_is t text (suc n) at le = next_is t text at (first_by (longest t text) n) (longest t text at) (longest_is t text at) (first_is t text n (at + 1) (omega (arith, le)))

pub first_match_is : (t : Tree) (text : List ℕ) (from : ℕ) → IsFirstMatch t text from (first_match t text from)
first_match_is t text from = first_is t text (length text + 1 - from) from (omega arith)

-- Whether there is a match anywhere.

none_or_some : (t : Tree) (text : List ℕ) (o : Option (ℕ × ℕ)) → IsFirstMatch t text 0 o → IsMatch t text (is_some o)
none_or_some t text None h = λ i j m. h i j (omega arith) m
none_or_some t text (Some p) h = (p.0, p.1, h.matches)

pub has_match_is : (t : Tree) (text : List ℕ) → IsMatch t text (has_match t text)
has_match_is t text = none_or_some t text (first_match t text 0) (first_match_is t text 0)
