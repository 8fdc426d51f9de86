-- Fields and separators in turn.
use Rattle.std.proofs.Common.{◌≡◌, ◌⊎◌, inl, inr, ℕ, zero, suc, ◌+◌, ◌-◌, ◌<◌, ◌≤◌, Bool, true, false, ◌||◌, List, [], ◌∷◌, ◌++◌, length, take, drop, slice_range, Option, Some, None, refl, sym, ap, subst, ◌∙◌, arith, eqb-true, eq-eqb}
use Rattle.std.specs.Prelude.{◌==◌, ◌&&◌, slice_get}
use Rattle.std.proofs.lemmas.Bool.{cases_lt}
use Rattle.std.proofs.lemmas.List.{take_at, drop_at}
use Rattle.std.proofs.lemmas.List.Folds.{drop_split}
use Rattle.ere_syntax.specs.Tree.{Tree}
use Rattle.sem_primitives.specs.FirstMatch.{longest, or_next, first_by}
use Rattle.sem_primitives.specs.Fields.{behind, parted, end_or_newline, separators, between}
use Rattle.agreement.specs.Texts.Fields.{IsByte, IsFullMatch, Separates, AreParted, last_field, one_field}
use Rattle.agreement.specs.Texts.Leftmost.{IsLeftmost, IsNone}
use Rattle.agreement.proofs.TextsLemmas.Leftmost.{same_leftmost, length_range, some_inj}
use Rattle.agreement.proofs.TextsLemmas.Longest.{IsEnd, end_is, separator_inside}

-- ---- the first separator

abbrev IsFirstOf : (ℕ → ℕ → Type 0) → ℕ → Option (ℕ × ℕ) → Type 0
IsFirstOf Is at None = IsNone Is at
IsFirstOf Is at (Some p) = IsLeftmost Is at p.0 p.1

same_or_more : (a b : ℕ) → a ≤ b → (a ≡ b) ⊎ (a + 1 ≤ b)
same_or_more a b h = elim (cases_lt a b) [ inl less ↦ inr (omega (arith, less)) | inr more ↦ inl (omega (arith, h, more)) ]

-- none begins here, so the first one from the next place on is the first
one_back : {Is : ℕ → ℕ → Type 0} {at start end : ℕ} → ((j : ℕ) → Is at j → ⊥) → IsLeftmost Is (at + 1) start end → IsLeftmost Is at start end
one_back {Is} {at} none f = record {
  above = (let above = f.above in omega (arith, above));
  is = f.is;
  least = λ i j low s. elim (same_or_more at i low) [ inl e ↦ absurd (none j (subst (λ x. Is x j) (sym e) s)) | inr more ↦ f.least i j more s ];
  greatest = f.greatest;
}

none_back : {Is : ℕ → ℕ → Type 0} {at : ℕ} → ((j : ℕ) → Is at j → ⊥) → IsNone Is (at + 1) → IsNone Is at
none_back {Is} {at} none h i j low s = elim (same_or_more at i low) [ inl e ↦ none j (subst (λ x. Is x j) (sym e) s) | inr more ↦ h i j more s ]

first_is : (Is : ℕ → ℕ → Type 0) (end : ℕ → Option ℕ) (size n at : ℕ) → ((i j : ℕ) → Is i j → i < size) → ((k : ℕ) → k < size → IsEnd Is k (end k)) → n + at ≡ size
    → IsFirstOf Is at (first_by end n at)
first_is Is end size zero at inside ends e = λ i j low s. (let less = inside i j s in omega (arith, low, less, e))
first_is Is end size (suc n) at inside ends e = by (end at) (ends at (omega (arith, e))) (first_by end n) (first_is Is end size n (at + 1) inside ends (omega (arith, e)))
  where
    further : (r : Option (ℕ × ℕ)) → ((j : ℕ) → Is at j → ⊥) → IsFirstOf Is (at + 1) r → IsFirstOf Is at r
    further None none h = none_back none h
    further (Some p) none h = one_back none h

    by : (o : Option ℕ) → IsEnd Is at o → (after : ℕ → Option (ℕ × ℕ)) → IsFirstOf Is (at + 1) (after (at + 1)) → IsFirstOf Is at (or_next o at after)
    by (Some to) h after f = record { above = omega arith; is = h.0; least = λ i j low s. low; greatest = h.1 }
    by None h after f = further (after (at + 1)) h f

-- ---- the matches of an expression

abbrev cut : (ℕ → Option ℕ) → List ℕ → ℕ → ℕ → Option (ℕ × ℕ) → List (List ℕ)
cut end text n at r = between text at (elim r [ None ↦ [] | Some p ↦ p ∷ separators end (length text) n p.1 ])

parted_by : (Is : ℕ → ℕ → Type 0) (end : ℕ → Option ℕ) (text : List ℕ) (n at : ℕ) → ((i j : ℕ) → Is i j → (i < j) × (j ≤ length text)) → ((k : ℕ) → k < length text → IsEnd Is k (end k))
    → length text ≤ n + at → at ≤ length text → AreParted Is at (drop at text) (between text at (separators end (length text) n at))
parted_by Is end text zero at inside ends enough low = last_field λ i j above s. (let within = inside i j s in omega (arith, enough, above, within.0, within.1))
parted_by Is end text (suc n) at inside ends enough low =
    by (first_by end (length text - at) at)
    (first_is Is end (length text) (length text - at) at (λ i j s. (let within = inside i j s in omega (arith, within.0, within.1))) ends (omega (arith, low)))
    (λ next less more. parted_by Is end text n next inside ends (omega (arith, less, enough)) more)
  where
    by : (r : Option (ℕ × ℕ)) → IsFirstOf Is at r → ((next : ℕ) → at < next → next ≤ length text → AreParted Is next (drop next text) (between text next (separators end (length text) n next)))
        → AreParted Is at (drop at text) (cut end text n at r)
    by None f go = last_field f
    by (Some p) f go =
        let within = inside p.0 p.1 f.is in
        let above = f.above in
        let split = drop_split text at p.0 above ∙ ap (slice_range text at p.0 ++◌) (drop_split text p.0 p.1 (omega (arith, within.0))) in
        let start = length_range text at p.0 above (omega (arith, within.0, within.1)) in
        let stop = length_range text p.0 p.1 (omega (arith, within.0)) within.1 in
        subst (λ x. AreParted Is at x (cut end text n at (Some p))) (sym split)
        (one_field (slice_range text p.0 p.1) start stop f (go p.1 (omega (arith, above, within.0)) within.1))

pub by_expression : (t : Tree) (newlines : Bool) (text : List ℕ)
    → AreParted (Separates (IsFullMatch t text) newlines text) 0 text (between text 0 (separators (λ at. end_or_newline newlines text at (longest t text at)) (length text) (length text) 0))
by_expression t newlines text =
    parted_by (Separates (IsFullMatch t text) newlines text) (λ at. end_or_newline newlines text at (longest t text at)) text (length text) 0
    (separator_inside t newlines text) (end_is t newlines text) (omega arith) (omega arith)

-- ---- bytes

abbrev marks : ℕ → Bool → ℕ → Bool
marks b newlines c = (c == b) || (newlines && (c == 10))

marked : (b : ℕ) (newlines : Bool) (text : List ℕ) (at c : ℕ) → slice_get text at ≡ Some c → marks b newlines c ≡ true → Separates (IsByte b text) newlines text at (at + 1)
marked b newlines text at c here e = by (c == b) refl newlines refl (c == 10) refl e
  where
    by : (x : Bool) → (c == b) ≡ x → (y : Bool) → newlines ≡ y → (z : Bool) → (c == 10) ≡ z → (x || (y && z)) ≡ true → Separates (IsByte b text) newlines text at (at + 1)
    by true ex y ey z ez h = inl (here ∙ ap (λ k. Some k) (eqb-true c b ex), refl)
    by false ex true ey true ez h = inr (ey, (here ∙ ap (λ k. Some k) (eqb-true c 10 ez), refl))
    by false ex true ey false ez h = absurd cc
    by false ex false ey z ez h = absurd cc

or_right : (x : Bool) → (x || true) ≡ true
or_right true = refl
or_right false = refl

unmarked : (b : ℕ) (newlines : Bool) (text : List ℕ) (at c : ℕ) → slice_get text at ≡ Some c → marks b newlines c ≡ false → (j : ℕ) → Separates (IsByte b text) newlines text at j → ⊥
unmarked b newlines text at c here e j (inl s) =
    let same = eq-eqb c b (some_inj c b (sym here ∙ s.0)) in
    let held : marks b newlines c ≡ true = ap (λ x. x || (newlines && (c == 10))) same in
    absurd cc
unmarked b newlines text at c here e j (inr n) =
    let same = eq-eqb c 10 (some_inj c 10 (sym here ∙ n.1.0)) in
    let held : marks b newlines c ≡ true = rw (n.0, same) (or_right (c == b)) in
    absurd cc

one_byte_long : (b : ℕ) (newlines : Bool) (text : List ℕ) (i j : ℕ) → Separates (IsByte b text) newlines text i j → j ≡ i + 1
one_byte_long b newlines text i j (inl s) = s.1
one_byte_long b newlines text i j (inr n) = n.1.1

some_byte : (b : ℕ) (newlines : Bool) (text : List ℕ) (i j : ℕ) → Separates (IsByte b text) newlines text i j → slice_get text i ≡ None → ⊥
some_byte b newlines text i j (inl s) e = let same = sym s.0 ∙ e in absurd cc
some_byte b newlines text i j (inr n) e = let same = sym n.1.0 ∙ e in absurd cc

longer_field : {Is : ℕ → ℕ → Type 0} {at : ℕ} {cs : List ℕ} {fields : List (List ℕ)} (c : ℕ) → ((j : ℕ) → Is at j → ⊥) → AreParted Is (at + 1) cs fields → AreParted Is at (c ∷ cs) (behind false c fields)
longer_field c none (last_field h) = last_field (none_back none h)
longer_field {at} c none (one_field {start} {end} {field} separator e f s r) =
    let sum : start ≡ at + length (c ∷ field) = omega (arith, e) in
    one_field {field = c ∷ field} separator sum f (one_back none s) r

by_byte_from : (b : ℕ) (newlines : Bool) (text : List ℕ) (at : ℕ) (cs : List ℕ) → ((k : ℕ) → slice_get text (k + at) ≡ slice_get cs k) → AreParted (Separates (IsByte b text) newlines text) at cs (parted (marks b newlines) cs)
by_byte_from b newlines text at [] same = last_field λ i j low s. some_byte b newlines text i j s (
    let sum : i - at + at ≡ i = omega (arith, low) in
    ap (slice_get text) (sym sum) ∙ same (i - at))
by_byte_from b newlines text at (c ∷ cs) same =
    by (marks b newlines c) refl (by_byte_from b newlines text (at + 1) cs λ k. (let sum : k + (at + 1) ≡ suc k + at = omega arith in ap (slice_get text) sum ∙ same (suc k)))
  where
    here : slice_get text at ≡ Some c
    here = let sum : at ≡ 0 + at = omega arith in ap (slice_get text) sum ∙ same 0

    by : (x : Bool) → marks b newlines c ≡ x → AreParted (Separates (IsByte b text) newlines text) (at + 1) cs (parted (marks b newlines) cs)
        → AreParted (Separates (IsByte b text) newlines text) at (c ∷ cs) (behind x c (parted (marks b newlines) cs))
    by true e r =
        let s : IsLeftmost (Separates (IsByte b text) newlines text) at at (at + 1) = record {
          above = omega arith;
          is = marked b newlines text at c here e;
          least = λ i j low s. low;
          greatest = λ j s. (let long = one_byte_long b newlines text at j s in omega (arith, long));
        } in
        one_field {field = []} (c ∷ []) (omega arith) (omega arith) s r
    by false e r = longer_field c (unmarked b newlines text at c here e) r

pub by_byte : (b : ℕ) (newlines : Bool) (text : List ℕ) → AreParted (Separates (IsByte b text) newlines text) 0 text (parted (λ c. (c == b) || (newlines && (c == 10))) text)
by_byte b newlines text = by_byte_from b newlines text 0 text λ k. (let sum : k + 0 ≡ k = omega arith in ap (slice_get text) sum)

-- ---- there are no others

same_front : (f g x y : List ℕ) → length f ≡ length g → f ++ x ≡ g ++ y → (f ≡ g) × (x ≡ y)
same_front f g x y size e = (
  sym (take_at f x (length f) refl) ∙ ap (take (length f)) e ∙ take_at g y (length f) (sym size),
  sym (drop_at f x (length f) refl) ∙ ap (drop (length f)) e ∙ drop_at g y (length f) (sym size),
)

pub same_parts : {Is : ℕ → ℕ → Type 0} {at at' : ℕ} {text text' : List ℕ} {fields fields' : List (List ℕ)} → AreParted Is at text fields → AreParted Is at' text' fields' → at ≡ at' → text ≡ text' → fields ≡ fields'
same_parts (last_field h) (last_field k) a e = ap (λ f. f ∷ []) e
same_parts (last_field h) (one_field {start} {end} separator e1 e2 s r) a e = absurd (h start end (let above = s.above in omega (arith, above, a)) s.is)
same_parts (one_field {start} {end} separator e1 e2 s r) (last_field k) a e = absurd (k start end (let above = s.above in omega (arith, above, a)) s.is)
same_parts {Is} (one_field {at} {start} {end} {field} {rest} {fields} separator e1 e2 s r) (one_field {at = at'} {start = start'} {end = end'} {field = field'} {rest = rest'} {fields = fields'} separator' e1' e2' s' r') a e =
    let same = same_leftmost s (subst (λ x. IsLeftmost Is x start' end') (sym a) s') in
    let f = same_front field field' (separator ++ rest) (separator' ++ rest') (omega (arith, e1, e1', same.0, a)) e in
    let g = same_front separator separator' rest rest' (omega (arith, e2, e2', same.0, same.1)) f.1 in
    ap (λ x. x ∷ fields) f.0 ∙ ap (field' ∷◌) (same_parts r r' same.1 g.1)
