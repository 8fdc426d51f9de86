-- A set of numbers as it grows.
use Rattle.std.proofs.Common.{◌≡◌, ℕ, zero, suc, ◌+◌, ◌<◌, ◌≤◌, ◌==◌, Bool, true, false, not, ◌||◌, IsTrue, if◌then◌else◌, List, [], ◌∷◌, ◌++◌, All, Result, Ok, Err, length, length-set, get_or, replicate, refl, ap, sym, subst, ◌∙◌, ◌⊎◌, inl, inr, true≢false, append_assoc, eqb-true, eq-eqb, arith}
use Rattle.std.proofs.lemmas.Bool.{eqb-false}
use Rattle.std.proofs.Math.ListN.{set}
use Rattle.std.specs.Global.{Vec}
use Rattle.std.specs.List.{Contains}
use Rattle.std.specs.Result.{IfOk}
use Rattle.std.proofs.lemmas.List.Elements.{All-nil, All-cons, All-head, All-tail, All-append, All-push, All-weaker, Contains-append_left, Contains-push, Contains-push_cases}
use Rattle.std.proofs.Math.Bool.{or-true}
use Rattle.latched.specs.declared.latched_vec.LatchedVec.{LatchedVec}
use Rattle.awk_resolve.specs.Marked.{is_marked, unmarked}
use Rattle.awk_resolve.specs.ViewFound.{Adds, IsIn, left}
use Rattle.awk_resolve.specs.Waiting.{given_for, numbers_at}
use Rattle.awk_resolve.specs.declared.closure.Found.{Found}
use Rattle.awk_resolve.proofs.Marked.{unmarked_set, marked_set, marked_grows, marked_at, none_marked}

length_push : {A : Type 0} (xs : List A) (x : A) → length (xs ++ x ∷ []) ≡ length xs + 1
length_push [] x = refl
length_push (y ∷ xs) x = let e = length_push xs x in omega (arith, e)

-- Adding numbers one after another.

pub adds_none : (f : Found) → Adds [] f f
adds_none f = record {
  size = refl;
  has = All-nil (IsIn f);
  grows = λ n h. h;
  within = λ other has base n h. base n h;
  whole = λ h. h;
  waits = λ fine n h. inl h;
  kept = λ n h. h;
  marked = λ h. h;
  less = omega arith;
}

pub adds_known : (f : Found) (n : ℕ) → IsIn f n → Adds (n ∷ []) f f
adds_known f n is = record {
  size = refl;
  has = All-cons (IsIn f) n [] is (All-nil (IsIn f));
  grows = λ k h. h;
  within = λ other has base k h. base k h;
  whole = λ h. h;
  waits = λ fine k h. inl h;
  kept = λ k h. h;
  marked = λ h. h;
  less = omega arith;
}

-- a new number, which waits if there is memory for it
pub adds_new : (old new : Found) (n : ℕ) (put : Bool) → n < length old.marked.items → is_marked old.marked.items n ≡ false → new.marked.items ≡ set old.marked.items n true
    → new.waiting.items ≡ (if put then old.waiting.items ++ n ∷ [] else old.waiting.items) → new.is_refused ≡ (old.is_refused || not put) → Adds (n ∷ []) old new
adds_new old new n put lt is e f g = record {
  size = ap length e ∙ length-set old.marked.items n true;
  has = All-cons (IsIn new) n [] here (All-nil (IsIn new));
  grows = grows;
  within = λ other has base k h. within other (All-head (λ k. IsTrue (other k)) n [] has) base k (cases k h);
  whole = λ fine. whole put old.is_refused (sym g ∙ fine);
  waits = λ fine k h. waits put f (sym g ∙ fine) k (cases k h);
  kept = λ k h. kept put f k h;
  marked = λ h. marked put f (All-weaker (IsIn old) (IsIn new) grows old.waiting.items h);
  less = less put f;
}
  where
    here : IsIn new n
    here = subst (λ (bs : List Bool). IsTrue (is_marked bs n)) (sym e) (marked_at old.marked.items n lt)

    grows : (k : ℕ) → IsIn old k → IsIn new k
    grows k h = subst (λ (bs : List Bool). IsTrue (is_marked bs k)) (sym e) (marked_grows old.marked.items n k h)

    cases : (k : ℕ) → IsIn new k → (k ≡ n) ⊎ IsIn old k
    cases k h = marked_set old.marked.items n k (subst (λ (bs : List Bool). IsTrue (is_marked bs k)) e h)

    within : (other : ℕ → Bool) → IsTrue (other n) → ((k : ℕ) → IsIn old k → IsTrue (other k)) → (k : ℕ) → (k ≡ n) ⊎ IsIn old k → IsTrue (other k)
    within other has base k (inl e) = subst (λ (u : ℕ). IsTrue (other u)) (sym e) has
    within other has base k (inr i) = base k i

    whole : (put b : Bool) → (b || not put) ≡ false → b ≡ false
    whole put false h = refl
    whole put true h = absurd (true≢false h)

    waits : (put : Bool) → new.waiting.items ≡ (if put then old.waiting.items ++ n ∷ [] else old.waiting.items) → (old.is_refused || not put) ≡ false → (k : ℕ) → (k ≡ n) ⊎ IsIn old k → IsIn old k ⊎ Contains new.waiting.items k
    waits put f h k (inr i) = inl i
    waits true f h k (inl e) = inr (subst (λ (u : ℕ). Contains new.waiting.items u) (sym e) (subst (λ (us : List ℕ). Contains us n) (sym f) (Contains-push old.waiting.items n)))
    waits false f h k (inl e) = absurd (true≢false (sym (or-true old.is_refused) ∙ h))

    kept : (put : Bool) → new.waiting.items ≡ (if put then old.waiting.items ++ n ∷ [] else old.waiting.items) → (k : ℕ) → Contains old.waiting.items k → Contains new.waiting.items k
    kept true f k h = subst (λ (us : List ℕ). Contains us k) (sym f) (Contains-append_left old.waiting.items (n ∷ []) k h)
    kept false f k h = subst (λ (us : List ℕ). Contains us k) (sym f) h

    marked : (put : Bool) → new.waiting.items ≡ (if put then old.waiting.items ++ n ∷ [] else old.waiting.items) → All (IsIn new) old.waiting.items → All (IsIn new) new.waiting.items
    marked true f all = subst (All (IsIn new)) (sym f) (All-push (IsIn new) old.waiting.items n all here)
    marked false f all = subst (All (IsIn new)) (sym f) all

    less : (put : Bool) → new.waiting.items ≡ (if put then old.waiting.items ++ n ∷ [] else old.waiting.items) → left new ≤ left old
    less true f = let a = ap unmarked e in let b = unmarked_set old.marked.items n lt is in let c = ap length f in let d = length_push old.waiting.items n in omega (arith, a, b, c, d)
    less false f = let a = ap unmarked e in let b = unmarked_set old.marked.items n lt is in let c = ap length f in omega (arith, a, b, c)

pub adds_both : (xs ys : List ℕ) {a b c : Found} → Adds xs a b → Adds ys b c → Adds (xs ++ ys) a c
adds_both xs ys {a} {b} {c} f s = record {
  size = s.size ∙ f.size;
  has = All-append (IsIn c) xs ys (All-weaker (IsIn b) (IsIn c) s.grows xs f.has) s.has;
  grows = λ n h. s.grows n (f.grows n h);
  within = λ other has base n h. s.within other (after other xs has) (λ k i. f.within other (before other xs has) base k i) n h;
  whole = λ fine. f.whole (s.whole fine);
  waits = λ fine n h. either (s.whole fine) n (s.waits fine n h);
  kept = λ n h. s.kept n (f.kept n h);
  marked = λ h. s.marked (f.marked h);
  less = let p = f.less in let q = s.less in omega (arith, p, q);
}
  where
    before : (other : ℕ → Bool) (zs : List ℕ) → All (λ n. IsTrue (other n)) (zs ++ ys) → All (λ n. IsTrue (other n)) zs
    before other [] h = All-nil (λ n. IsTrue (other n))
    before other (z ∷ zs) h = All-cons (λ n. IsTrue (other n)) z zs (All-head (λ n. IsTrue (other n)) z (zs ++ ys) h) (before other zs (All-tail (λ n. IsTrue (other n)) z (zs ++ ys) h))

    after : (other : ℕ → Bool) (zs : List ℕ) → All (λ n. IsTrue (other n)) (zs ++ ys) → All (λ n. IsTrue (other n)) ys
    after other [] h = h
    after other (z ∷ zs) h = after other zs (All-tail (λ n. IsTrue (other n)) z (zs ++ ys) h)

    old : (n : ℕ) → IsIn a n ⊎ Contains b.waiting.items n → IsIn a n ⊎ Contains c.waiting.items n
    old n (inl i) = inl i
    old n (inr i) = inr (s.kept n i)

    either : b.is_refused ≡ false → (n : ℕ) → IsIn b n ⊎ Contains c.waiting.items n → IsIn a n ⊎ Contains c.waiting.items n
    either fine n (inl i) = old n (f.waits fine n i)
    either fine n (inr i) = inr i

-- What is paired with a number.

pub given_small : (count : ℕ) (ps : List (ℕ × ℕ)) (n : ℕ) → All (λ p. (p.0 < count) × (p.1 < count)) ps → All (λ g. g < count) (given_for ps n)
given_small count [] n h = All-nil (λ g. g < count)
given_small count (p ∷ ps) n h = by (p.1 == n) (given_small count ps n (All-tail (λ p. (p.0 < count) × (p.1 < count)) p ps h))
  where
    by : (b : Bool) → All (λ g. g < count) (given_for ps n) → All (λ g. g < count) (if b then p.0 ∷ given_for ps n else given_for ps n)
    by true rest = All-cons (λ g. g < count) p.0 (given_for ps n) (All-head (λ p. (p.0 < count) × (p.1 < count)) p ps h).0 rest
    by false rest = rest

-- a set that follows the pairs has what is given for one of its numbers
pub given_within : (other : ℕ → Bool) (ps : List (ℕ × ℕ)) (n : ℕ) → All (λ p. IsTrue (other p.1) → IsTrue (other p.0)) ps → IsTrue (other n) → All (λ g. IsTrue (other g)) (given_for ps n)
given_within other [] n follows h = All-nil (λ g. IsTrue (other g))
given_within other (p ∷ ps) n follows h = by (p.1 == n) refl (given_within other ps n (All-tail (λ p. IsTrue (other p.1) → IsTrue (other p.0)) p ps follows) h)
  where
    by : (b : Bool) → (p.1 == n) ≡ b → All (λ g. IsTrue (other g)) (given_for ps n) → All (λ g. IsTrue (other g)) (if b then p.0 ∷ given_for ps n else given_for ps n)
    by true e rest = let same : p.1 ≡ n = eqb-true p.1 n e in All-cons (λ g. IsTrue (other g)) p.0 (given_for ps n) (All-head (λ p. IsTrue (other p.1) → IsTrue (other p.0)) p ps follows (subst (λ (u : ℕ). IsTrue (other u)) (sym same) h)) rest
    by false e rest = rest

-- and the other way round
pub follows_given : (other : ℕ → Bool) (ps : List (ℕ × ℕ)) → ((n : ℕ) → IsTrue (other n) → All (λ g. IsTrue (other g)) (given_for ps n)) → All (λ p. IsTrue (other p.1) → IsTrue (other p.0)) ps
follows_given other [] h = All-nil (λ p. IsTrue (other p.1) → IsTrue (other p.0))
follows_given other (p ∷ ps) h = All-cons (λ p. IsTrue (other p.1) → IsTrue (other p.0)) p ps (λ i. first (p.1 == p.1) (eq-eqb p.1 p.1 refl) (h p.1 i)) (follows_given other ps (λ n i. rest (p.1 == n) n (h n i)))
  where
    first : (b : Bool) → b ≡ true → All (λ g. IsTrue (other g)) (if b then p.0 ∷ given_for ps p.1 else given_for ps p.1) → IsTrue (other p.0)
    first true e all = All-head (λ g. IsTrue (other g)) p.0 (given_for ps p.1) all
    first false e all = absurd (true≢false (sym e))

    rest : (b : Bool) (n : ℕ) → All (λ g. IsTrue (other g)) (if b then p.0 ∷ given_for ps n else given_for ps n) → All (λ g. IsTrue (other g)) (given_for ps n)
    rest true n all = All-tail (λ g. IsTrue (other g)) p.0 (given_for ps n) all
    rest false n all = all

-- Lists by number.

none_given : (vs : List (Vec ℕ)) (v : Vec ℕ) (n : ℕ) → v.items ≡ [] → numbers_at vs n ≡ [] → numbers_at (vs ++ v ∷ []) n ≡ []
none_given [] v zero e h = e
none_given [] v (suc n) e h = refl
none_given (u ∷ vs) v zero e h = h
none_given (u ∷ vs) v (suc n) e h = none_given vs v n e h

-- so many lists of no numbers, unless memory was wanting
pub record NoNumbers (lists : LatchedVec (Vec ℕ)) (count : ℕ) : Type 0 where
  pub size : lists.out_of_memory ≡ false → length lists.items.items ≡ count
  pub empty : lists.out_of_memory ≡ false → (n : ℕ) → numbers_at lists.items.items n ≡ []

pub no_first : (lists : LatchedVec (Vec ℕ)) → lists.items.items ≡ [] → NoNumbers lists 0
no_first lists e = record { size = λ fine. ap length e; empty = λ fine n. ap (λ (vs : List (Vec ℕ)). numbers_at vs n) e }

pub no_next : {old new : LatchedVec (Vec ℕ)} {count : ℕ} (v : Vec ℕ) → v.items ≡ [] → (new.out_of_memory ≡ false → (old.out_of_memory ≡ false) × (new.items.items ≡ old.items.items ++ v ∷ [])) → NoNumbers old count → NoNumbers new (count + 1)
no_next {old} {new} {count} v none put h = record {
  size = λ fine. let p = put fine in ap length p.1 ∙ length_push old.items.items v ∙ ap (λ (n : ℕ). n + 1) (h.size p.0);
  empty = λ fine n. let p = put fine in ap (λ (vs : List (Vec ℕ)). numbers_at vs n) p.1 ∙ none_given old.items.items v n none (h.empty p.0 n);
}

pub no_size : {E : Type 0} (lists : LatchedVec (Vec ℕ)) (count : ℕ) (r : Result (Vec (Vec ℕ)) E) → NoNumbers lists count → IfOk r (λ all. (lists.out_of_memory ≡ false) × (all.items ≡ lists.items.items)) → IfOk r (λ all. length all.items ≡ count)
no_size lists count (Ok all) h is = ap length is.1 ∙ h.size is.0
no_size lists count (Err e) h is = tt

pub no_numbers : {E : Type 0} (lists : LatchedVec (Vec ℕ)) (count : ℕ) (r : Result (Vec (Vec ℕ)) E) → NoNumbers lists count → IfOk r (λ all. (lists.out_of_memory ≡ false) × (all.items ≡ lists.items.items)) → IfOk r (λ all. (n : ℕ) → numbers_at all.items n ≡ [])
no_numbers lists count (Ok all) h is = λ n. ap (λ (vs : List (Vec ℕ)). numbers_at vs n) is.1 ∙ h.empty is.0 n
no_numbers lists count (Err e) h is = tt

at_set : (vs : List (Vec ℕ)) (k : ℕ) (v : Vec ℕ) → k < length vs → numbers_at (set vs k v) k ≡ v.items
at_set [] k v lt = absurd (omega arith)
at_set (u ∷ vs) zero v lt = refl
at_set (u ∷ vs) (suc k) v lt = at_set vs k v (omega arith)

at_other : (vs : List (Vec ℕ)) (k n : ℕ) (v : Vec ℕ) → (k ≡ n → ⊥) → numbers_at (set vs k v) n ≡ numbers_at vs n
at_other [] k n v ne = refl
at_other (u ∷ vs) zero zero v ne = absurd (ne refl)
at_other (u ∷ vs) zero (suc n) v ne = refl
at_other (u ∷ vs) (suc k) zero v ne = refl
at_other (u ∷ vs) (suc k) (suc n) v ne = at_other vs k n v (λ e. ne (ap suc e))

pub at_get : (vs : List (Vec ℕ)) (k : ℕ) (d : Vec ℕ) → k < length vs → (get_or vs k d).items ≡ numbers_at vs k
at_get [] k d lt = absurd (omega arith)
at_get (u ∷ vs) zero d lt = refl
at_get (u ∷ vs) (suc k) d lt = at_get vs k d (omega arith)

-- a number is added to one list
pub numbers_set : (vs : List (Vec ℕ)) (k g : ℕ) (v : Vec ℕ) (rest : List ℕ) (n : ℕ) → k < length vs → v.items ≡ numbers_at vs k ++ g ∷ [] → numbers_at (set vs k v) n ++ rest ≡ numbers_at vs n ++ (if k == n then g ∷ rest else rest)
numbers_set vs k g v rest n lt e = by (k == n) refl
  where
    by : (b : Bool) → (k == n) ≡ b → numbers_at (set vs k v) n ++ rest ≡ numbers_at vs n ++ (if b then g ∷ rest else rest)
    by true h =
        let same : k ≡ n = eqb-true k n h in
        subst (λ (m : ℕ). numbers_at (set vs k v) m ++ rest ≡ numbers_at vs m ++ g ∷ rest) same (ap (λ (xs : List ℕ). xs ++ rest) (at_set vs k v lt ∙ e) ∙ append_assoc (numbers_at vs k) (g ∷ []) rest)
    by false h = ap (λ (xs : List ℕ). xs ++ rest) (at_other vs k n v (eqb-false k n h))

-- The set is closed when nothing waits.

-- each number of the set waits, or what is given for it is in the set, unless memory was wanting
pub record IsFollowed (found : Found) (ps : List (ℕ × ℕ)) : Type 0 where
  pub followed : found.is_refused ≡ false → (n : ℕ) → IsIn found n → Contains found.waiting.items n ⊎ All (IsIn found) (given_for ps n)

pub followed_first : (ps : List (ℕ × ℕ)) {ms : List ℕ} (count : ℕ) {old new : Found} → old.marked.items ≡ replicate count false → Adds ms old new → IsFollowed new ps
followed_first ps count {old} {new} e adds = record { followed = λ fine n h. by n (adds.waits fine n h) }
  where
    by : (n : ℕ) → IsIn old n ⊎ Contains new.waiting.items n → Contains new.waiting.items n ⊎ All (IsIn new) (given_for ps n)
    by n (inl i) = absurd (none_marked count n (subst (λ (bs : List Bool). IsTrue (is_marked bs n)) e i))
    by n (inr i) = inl i

-- one that waited is followed; `taken` is what there was before without it
pub followed_more : (ps : List (ℕ × ℕ)) {before taken new : Found} (n : ℕ) → taken.marked.items ≡ before.marked.items → taken.is_refused ≡ before.is_refused → before.waiting.items ≡ taken.waiting.items ++ n ∷ []
    → IsFollowed before ps → Adds (given_for ps n) taken new → IsFollowed new ps
followed_more ps {before} {taken} {new} n same whole e is adds = record { followed = λ fine k h. by fine k (adds.waits fine k h) }
  where
    grows : (k : ℕ) → IsIn before k → IsIn new k
    grows k h = adds.grows k (subst (λ (bs : List Bool). IsTrue (is_marked bs k)) (sym same) h)

    popped : (k : ℕ) → Contains taken.waiting.items k ⊎ (n ≡ k) → Contains new.waiting.items k ⊎ All (IsIn new) (given_for ps k)
    popped k (inl i) = inl (adds.kept k i)
    popped k (inr same) = inr (subst (λ (u : ℕ). All (IsIn new) (given_for ps u)) same adds.has)

    old : (k : ℕ) → Contains before.waiting.items k ⊎ All (IsIn before) (given_for ps k) → Contains new.waiting.items k ⊎ All (IsIn new) (given_for ps k)
    old k (inl i) = popped k (Contains-push_cases taken.waiting.items n k (subst (λ (xs : List ℕ). Contains xs k) e i))
    old k (inr all) = inr (All-weaker (IsIn before) (IsIn new) grows (given_for ps k) all)

    by : new.is_refused ≡ false → (k : ℕ) → IsIn taken k ⊎ Contains new.waiting.items k → Contains new.waiting.items k ⊎ All (IsIn new) (given_for ps k)
    by fine k (inl i) = old k (is.followed (sym whole ∙ adds.whole fine) k (subst (λ (bs : List Bool). IsTrue (is_marked bs k)) same i))
    by fine k (inr i) = inl i

pub followed_all : (ps : List (ℕ × ℕ)) (found : Found) → found.waiting.items ≡ [] → found.is_refused ≡ false → IsFollowed found ps → All (λ p. IsIn found p.1 → IsIn found p.0) ps
followed_all ps found e fine is = follows_given (is_marked found.marked.items) ps (λ n i. by n (is.followed fine n i))
  where
    none : (n : ℕ) → Contains [] n → ⊥
    none n h = omega (arith, h.1)

    by : (n : ℕ) → Contains found.waiting.items n ⊎ All (IsIn found) (given_for ps n) → All (IsIn found) (given_for ps n)
    by n (inl i) = absurd (none n (subst (λ (xs : List ℕ). Contains xs n) e i))
    by n (inr all) = all
