-- The places that are computed are those of the relation, and no others are.
use Rattle.std.proofs.Common.{◌≡◌, inl, inr, ℕ, zero, suc, ◌+◌, ◌<◌, ◌≤◌, Bool, true, false, List, [], ◌∷◌, length, take, Option, Some, None, refl, sym, ap, subst, ◌∙◌, arith, eqb-true, eq-eqb}
use Rattle.std.specs.Prelude.{◌==◌, ◌&&◌, if◌then◌else◌}
use Rattle.std.proofs.lemmas.Bool.{cases_lt, cases_Bool, false≢true}
use Rattle.ere_syntax.specs.Tree.{Tree}
use Rattle.ere_syntax.specs.Matches.{Matches}
use Rattle.ere_syntax.proofs.Meaning.{matches_inside}
use Rattle.ere_syntax.specs.FirstMatch.{IsFirst, IsFirstMatch}
use Rattle.sem_primitives.specs.FirstMatch.{first_match}
use Rattle.sem_primitives.specs.TextMeaning.{behind, is_empty_at, places, places_of}
use Rattle.sem_primitives.proofs.Firsts.{first_match_is}
use Rattle.agreement.specs.Texts.Substitutions.{end_of, IsTaken, ArePlaces, no_more, next, IsPlace}
use Rattle.agreement.specs.Texts.Leftmost.{IsLeftmost, IsNone}
use Rattle.agreement.proofs.TextsLemmas.Leftmost.{same_leftmost, some_inj}

-- ---- the test for an empty match directly after the former one

is_empty : (last : Option ℕ) (p : ℕ × ℕ) → is_empty_at last p ≡ true → (p.0 ≡ p.1) × (last ≡ Some p.0)
is_empty None p e = by (p.0 == p.1) e
  where
    by : {A : Type 0} (b : Bool) → (b && false) ≡ true → A
    by true h = absurd cc
    by false h = absurd cc
is_empty (Some m) p e = by (p.0 == p.1) (m == p.0) refl refl e
  where
    by : (a b : Bool) → (p.0 == p.1) ≡ a → (m == p.0) ≡ b → (a && b) ≡ true → (p.0 ≡ p.1) × (Some m ≡ Some p.0)
    by true true x y h = (eqb-true p.0 p.1 x, ap (λ k. Some k) (eqb-true m p.0 y))
    by true false x y h = absurd cc
    by false b x y h = absurd cc

not_empty : (last : Option ℕ) (p : ℕ × ℕ) → is_empty_at last p ≡ false → last ≡ Some p.0 → p.0 ≡ p.1 → ⊥
not_empty None p e l same = absurd cc
not_empty (Some m) p e l same =
    let x : (p.0 == p.1) ≡ true = eq-eqb p.0 p.1 same in
    let y : (m == p.0) ≡ true = eq-eqb m p.0 (some_inj m p.0 l) in
    let z : is_empty_at (Some m) p ≡ true = rw (x, y) refl in
    false≢true (sym e ∙ z)

-- ---- after a match

behind_empty : (p : ℕ × ℕ) → p.0 ≡ p.1 → behind p ≡ p.1 + 1
behind_empty p e = ap (λ b. if b then p.1 + 1 else p.1) (eq-eqb p.0 p.1 e)

behind_full : (p : ℕ × ℕ) → p.0 < p.1 → behind p ≡ p.1
behind_full p h = elim (cases_Bool (p.0 == p.1)) [
  | inl e ↦ (let same = eqb-true p.0 p.1 e in absurd (omega (arith, same, h)))
  | inr e ↦ ap (λ b. if b then p.1 + 1 else p.1) e
]

-- ---- what is computed

-- nothing is taken between the former match and this place, and the count of tries lasts
record HasRoom (t : Tree) (text : List ℕ) (n at : ℕ) (last : Option ℕ) : Type 0 where
  low : end_of last ≤ at
  none : (i j : ℕ) → end_of last ≤ i → i < at → IsTaken t text last i j → ⊥
  enough : length text + 1 ≤ n + at

abbrev First : Type 0
First = ℕ → Option (ℕ × ℕ)

abbrev choose : First → ℕ → Option ℕ → ℕ × ℕ → Bool → List (ℕ × ℕ)
choose first n last p b = elim b [ true ↦ places first n (behind p) last | false ↦ p ∷ places first n (behind p) (Some p.1) ]

abbrev cut : First → ℕ → Option ℕ → Option (ℕ × ℕ) → List (ℕ × ℕ)
cut first n last r = elim r [ None ↦ [] | Some p ↦ choose first n last p (is_empty_at last p) ]

order : (t : Tree) (text : List ℕ) (i j : ℕ) → Matches t text i j → i ≤ j
order t text i j m = (matches_inside t text i j m).0

none_left : {t : Tree} {text : List ℕ} {n at : ℕ} {last : Option ℕ} → HasRoom t text n at last → ((i j : ℕ) → at ≤ i → Matches t text i j → ⊥)
    → IsNone (IsTaken t text last) (end_of last)
none_left {at} room past i j low k = elim (cases_lt i at) [ inl less ↦ room.none i j low less k | inr more ↦ past i j more k.0 ]

after_empty : {t : Tree} {text : List ℕ} {n at : ℕ} {last : Option ℕ} {p : ℕ × ℕ} → HasRoom t text (suc n) at last → IsFirst t text at p.0 p.1
    → p.0 ≡ p.1 → last ≡ Some p.0 → HasRoom t text n (behind p) last
after_empty {t} {text} {n} {at} {last} {p} room f same former = record {
  low = (let end = ap end_of former in omega (arith, behind_empty p same, same, end));
  none = λ i j low less k. elim (cases_lt i at) [
    | inl before ↦ room.none i j low before k
    | inr here ↦ (
        let start = f.least i j here k.0 in
        let place : i ≡ p.0 = omega (arith, start, less, behind_empty p same, same) in
        let longer = k.1 (former ∙ ap (λ x. Some x) (sym place)) in
        let most = f.greatest j (subst (λ x. Matches t text x j) place k.0) in
        omega (arith, longer, most, place, same))
  ];
  enough = (let above = f.above in let room_left = room.enough in omega (arith, room_left, above, same, behind_empty p same));
}

is_next : {t : Tree} {text : List ℕ} {n at : ℕ} {last : Option ℕ} {p : ℕ × ℕ} → HasRoom t text n at last → IsFirst t text at p.0 p.1
    → is_empty_at last p ≡ false → IsLeftmost (IsTaken t text last) (end_of last) p.0 p.1
is_next {t} {text} {n} {at} {last} {p} room f e = record {
  above = (let low = room.low in let above = f.above in omega (arith, low, above));
  is = (
    f.matches,
    λ former. (let inside = order t text p.0 p.1 f.matches in elim (cases_lt p.0 p.1) [
      | inl less ↦ less
      | inr more ↦ absurd (not_empty last p e former (omega (arith, inside, more)))
    ]),
  );
  least = λ i j low k. elim (cases_lt i at) [ inl less ↦ absurd (room.none i j low less k) | inr more ↦ f.least i j more k.0 ];
  greatest = λ j k. f.greatest j k.0;
}

after_match : {t : Tree} {text : List ℕ} {n at : ℕ} {last : Option ℕ} {p : ℕ × ℕ} → HasRoom t text (suc n) at last → IsFirst t text at p.0 p.1 → HasRoom t text n (behind p) (Some p.1)
after_match {t} {text} {n} {at} {last} {p} room f =
    let above = f.above in
    let left = room.enough in
    elim (cases_lt p.0 p.1) [
      | inl less ↦ record {
        low = omega (arith, behind_full p less);
        none = λ i j low before k. omega (arith, low, before, behind_full p less);
        enough = omega (arith, left, above, less, behind_full p less);
      }
      | inr more ↦ (
          let inside = order t text p.0 p.1 f.matches in
          let same : p.0 ≡ p.1 = omega (arith, inside, more) in
          record {
            low = omega (arith, behind_empty p same);
            none = λ i j low before k. (
                let place : p.1 ≡ i = omega (arith, low, before, behind_empty p same) in
                let longer = k.1 (ap (λ x. Some x) place) in
                let most = f.greatest j (subst (λ x. Matches t text x j) (sym place ∙ sym same) k.0) in
                omega (arith, longer, most, place));
            enough = omega (arith, left, above, same, behind_empty p same);
          })
    ]

are_places : (t : Tree) (text : List ℕ) (n at : ℕ) (last : Option ℕ) → HasRoom t text n at last → ArePlaces t text last (places (first_match t text) n at last)
are_places t text zero at last room =
    no_more (none_left room λ i j low m. (let inside = matches_inside t text i j m in let left = room.enough in omega (arith, low, inside.0, inside.1, left)))
are_places t text (suc n) at last room = by (first_match t text at) (first_match_is t text at) (are_places t text n)
  where
    split : (p : ℕ × ℕ) → IsFirst t text at p.0 p.1 → ((at' : ℕ) (last' : Option ℕ) → HasRoom t text n at' last' → ArePlaces t text last' (places (first_match t text) n at' last'))
        → (b : Bool) → is_empty_at last p ≡ b → ArePlaces t text last (choose (first_match t text) n last p b)
    split p f go true e = let h = is_empty last p e in go (behind p) last (after_empty room f h.0 h.1)
    split p f go false e = next (is_next room f e) (go (behind p) (Some p.1) (after_match room f))

    by : (r : Option (ℕ × ℕ)) → IsFirstMatch t text at r → ((at' : ℕ) (last' : Option ℕ) → HasRoom t text n at' last' → ArePlaces t text last' (places (first_match t text) n at' last'))
        → ArePlaces t text last (cut (first_match t text) n last r)
    by None f go = no_more (none_left room f)
    by (Some p) f go = split p f go (is_empty_at last p) refl

pub all_places : (t : Tree) (text : List ℕ) → ArePlaces t text None (places_of t text true)
all_places t text = are_places t text (length text + 1) 0 None (record { low = omega arith; none = λ i j low less k. omega (arith, less); enough = omega arith })

-- ---- there are no others

same_pair : (p q : ℕ × ℕ) → p.0 ≡ q.0 → p.1 ≡ q.1 → p ≡ q
same_pair p q e f = ap (λ x. (x, p.1)) e ∙ ap (λ y. (q.0, y)) f

same_match : {Is : ℕ → ℕ → Type 0} {at : ℕ} (p q : ℕ × ℕ) → IsLeftmost Is at p.0 p.1 → IsLeftmost Is at q.0 q.1 → p ≡ q
same_match p q f g = let same = same_leftmost f g in same_pair p q same.0 same.1

pub same_places : {t : Tree} {text : List ℕ} {former : Option ℕ} {ps qs : List (ℕ × ℕ)} → ArePlaces t text former ps → ArePlaces t text former qs → ps ≡ qs
same_places (no_more h) (no_more k) = refl
same_places (no_more h) (next {p} f r) = absurd (h p.0 p.1 f.above f.is)
same_places (next {p} f r) (no_more k) = absurd (k p.0 p.1 f.above f.is)
same_places {t} {text} {former} (next {p} {ps} f r) (next {p = q} {ps = qs} g s) =
    let e : p ≡ q = same_match p q f g in
    ap (λ x. x ∷ ps) e ∙ ap (q ∷◌) (same_places r (subst (λ x. ArePlaces t text (Some x.1) qs) (sym e) s))

-- ---- the place of a sub

never : (b : Bool) → (b && false) ≡ false
never true = refl
never false = refl

one_place : (t : Tree) (text : List ℕ) (n : ℕ) → 0 < n → IsPlace t text (take 1 (places (first_match t text) n 0 None))
one_place t text zero h = absurd (omega (arith, h))
one_place t text (suc n) h = by (first_match t text 0) (first_match_is t text 0)
  where
    split : (p : ℕ × ℕ) → IsFirst t text 0 p.0 p.1 → (b : Bool) → b ≡ false → IsPlace t text (take 1 (choose (first_match t text) n None p b))
    split p f false e = record { above = f.above; is = f.matches; least = f.least; greatest = f.greatest }
    split p f true e = absurd cc

    by : (r : Option (ℕ × ℕ)) → IsFirstMatch t text 0 r → IsPlace t text (take 1 (cut (first_match t text) n None r))
    by None f = f
    by (Some p) f = split p f (is_empty_at None p) (never (p.0 == p.1))

pub the_place : (t : Tree) (text : List ℕ) → IsPlace t text (places_of t text false)
the_place t text = one_place t text (length text + 1) (omega arith)

pub same_place : (t : Tree) (text : List ℕ) (ps qs : List (ℕ × ℕ)) → IsPlace t text ps → IsPlace t text qs → ps ≡ qs
same_place t text [] [] f g = refl
same_place t text [] (q ∷ []) f g = absurd (f q.0 q.1 g.above g.is)
same_place t text (p ∷ []) [] f g = absurd (g p.0 p.1 f.above f.is)
same_place t text (p ∷ []) (q ∷ []) f g = ap (λ x. x ∷ []) (same_match p q f g)
same_place t text (p ∷ q ∷ ps) qs f g = absurd f
same_place t text ps (p ∷ q ∷ qs) f g = absurd g
