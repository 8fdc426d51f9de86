-- Cutting at separators.
use Rattle.std.proofs.Common.{◌≡◌, ◌≢◌, inl, inr, ℕ, zero, suc, ◌+◌, ◌-◌, ◌^◌, ◌<◌, ◌≤◌, ◌==◌, List, [], ◌∷◌, ◌++◌, length, take, drop, get_or, Bool, true, false, cond, ◌&&◌, refl, sym, ◌∙◌, ap, subst, arith, Option, Some, None, Result, Ok, Err, length-append, length-drop, length-take, append_assoc, append-nil, eq-eqb, slice_range, nat_le}
use Rattle.std.specs.List.{prefix_len}
use Rattle.std.proofs.Math.Seq.{drop-cons, take-suc}
use Rattle.std.proofs.lemmas.List.{drop-append-le, drop-drop, take_all, take-append-le, take-append-drop}
use Rattle.std.proofs.lemmas.Bool.{cases_lt, ne_eqb, le-leb, lt-leb}
use Rattle.awk_values.specs.declared.fault.Fault.{Fault}
use Rattle.awk_values.specs.declared.fault.Fault.TheVariants.{TextLimit}
use Rattle.world_core.specs.declared.world.Ending.{Ending}
use Rattle.world_core.specs.WorldState.{Source}
use Rattle.sem_primitives.specs.Records.{is_newline, begins, width, onto, cut, skipped, without_last, trimmed, Got, Record, of_rest, of_cut, first_record}
use Rattle.host_streams.specs.declared.look.Known.{Known}
use Rattle.host_streams.specs.Looks.{before, HasNoneBefore, all_but_one, searched, IsScanned, IsThere, IsLong, IsOpen}

before-none : (o : Option (List ℕ × List ℕ)) → before [] o ≡ o
before-none None = refl
before-none (Some p) = refl

before-onto : (ys : List ℕ) (x : ℕ) (o : Option (List ℕ × List ℕ)) → before ys (onto x o) ≡ before (ys ++ x ∷ []) o
before-onto ys x None = refl
before-onto ys x (Some p) = ap (λ t. Some (t, p.1)) (sym (append_assoc ys (x ∷ []) p.0))

pub cut_start : (rs : Option ℕ) (bytes : List ℕ) → cut rs bytes ≡ before (take 0 bytes) (cut rs (drop 0 bytes))
cut_start rs bytes = sym (before-none (cut rs bytes))

cut_false : (rs : Option ℕ) (x : ℕ) (xs : List ℕ) → begins rs (x ∷ xs) ≡ false → cut rs (x ∷ xs) ≡ onto x (cut rs xs)
cut_false rs x xs e = ap (λ b. cond b (Some ([], drop (width rs) (x ∷ xs))) (onto x (cut rs xs))) e

cut_true : (rs : Option ℕ) (x : ℕ) (xs : List ℕ) → begins rs (x ∷ xs) ≡ true → cut rs (x ∷ xs) ≡ Some ([], drop (width rs) (x ∷ xs))
cut_true rs x xs e = ap (λ b. cond b (Some ([], drop (width rs) (x ∷ xs))) (onto x (cut rs xs))) e

begins-width : (rs : Option ℕ) (xs : List ℕ) → begins rs xs ≡ true → width rs ≤ length xs
begins-width rs [] e = cc
begins-width (Some b) (x ∷ xs) e = omega arith
begins-width None (x ∷ []) e = cc
begins-width None (x ∷ y ∷ xs) e = omega arith

-- one byte that begins no separator
pub cut_next : (rs : Option ℕ) (bytes : List ℕ) (i : ℕ) → i < length bytes → begins rs (drop i bytes) ≡ false →
    before (take i bytes) (cut rs (drop i bytes)) ≡ before (take (i + 1) bytes) (cut rs (drop (i + 1) bytes))
cut_next rs bytes i h e =
    let here : drop i bytes ≡ get_or bytes i 0 ∷ drop (suc i) bytes = drop-cons bytes i 0 h in
    let step : before (take i bytes) (cut rs (drop i bytes)) ≡ before (take (suc i) bytes) (cut rs (drop (suc i) bytes)) =
    ap (λ xs. before (take i bytes) (cut rs xs)) here
    ∙ ap (before (take i bytes)) (cut_false rs (get_or bytes i 0) (drop (suc i) bytes) (subst (λ (xs : List ℕ). begins rs xs ≡ false) here e))
    ∙ before-onto (take i bytes) (get_or bytes i 0) (cut rs (drop (suc i) bytes))
    ∙ ap (λ ys. before ys (cut rs (drop (suc i) bytes))) (sym (take-suc bytes i 0 h)) in
    let one : suc i ≡ i + 1 = omega arith in subst (λ (k : ℕ). before (take i bytes) (cut rs (drop i bytes)) ≡ before (take k bytes) (cut rs (drop k bytes))) one step

-- the first separator
pub cut_here : (rs : Option ℕ) (bytes : List ℕ) (i : ℕ) → i < length bytes → begins rs (drop i bytes) ≡ true → cut rs bytes ≡ before (take i bytes) (cut rs (drop i bytes)) →
    (i + width rs ≤ length bytes) × (cut rs bytes ≡ Some (take i bytes, drop (i + width rs) bytes))
cut_here rs bytes i h e all =
    let here : drop i bytes ≡ get_or bytes i 0 ∷ drop (suc i) bytes = drop-cons bytes i 0 h in
    let w : width rs ≤ length (drop i bytes) = begins-width rs (drop i bytes) e in (
      omega (arith, length-drop i bytes),
      all ∙ ap (λ xs. before (take i bytes) (cut rs xs)) here
          ∙ ap (before (take i bytes)) (cut_true rs (get_or bytes i 0) (drop (suc i) bytes) (subst (λ (xs : List ℕ). begins rs xs ≡ true) here e))
          ∙ ap (λ xs. before (take i bytes) (Some ([], drop (width rs) xs))) (sym here)
          ∙ simp (append-nil, drop-drop),
    )

-- with more bytes behind
abbrev pub extend : List ℕ → Option (List ℕ × List ℕ) → Option (List ℕ × List ℕ)
extend ys None = None
extend ys (Some p) = Some (p.0, p.1 ++ ys)

more_byte : (c : Bool) (x : ℕ) (xs ys : List ℕ) (o o' : Option (List ℕ × List ℕ)) (p : List ℕ × List ℕ) → ((q : List ℕ × List ℕ) → o ≡ Some q → o' ≡ Some (q.0, q.1 ++ ys)) →
    cond c (Some ([], xs)) (onto x o) ≡ Some p → cond c (Some ([], xs ++ ys)) (onto x o') ≡ Some (p.0, p.1 ++ ys)
more_byte true x xs ys o o' p ih e = ap (extend ys) e
more_byte false x xs ys None o' p ih e = cc
more_byte false x xs ys (Some q) o' p ih e = ap (onto x) (ih q refl) ∙ ap (extend ys) e

-- a separator is still the first where more follows
pub cut_more : (rs : Option ℕ) (xs ys : List ℕ) (p : List ℕ × List ℕ) → cut rs xs ≡ Some p → cut rs (xs ++ ys) ≡ Some (p.0, p.1 ++ ys)
cut_more rs [] ys p e = cc
cut_more (Some b) (x ∷ xs) ys p e = more_byte (x == b) x xs ys (cut (Some b) xs) (cut (Some b) (xs ++ ys)) p (λ q. cut_more (Some b) xs ys q) e
cut_more None (x ∷ []) ys p e = cc
cut_more None (x ∷ y ∷ zs) ys p e = more_byte (is_newline x && is_newline y) x zs ys (cut None (y ∷ zs)) (cut None (y ∷ zs ++ ys)) p (λ q. cut_more None (y ∷ zs) ys q) e

-- how long a record is at least
abbrev pub sized : Option (List ℕ × List ℕ) → List ℕ → ℕ
sized None text = length text
sized (Some p) text = length p.0

sized-onto : (x : ℕ) (o : Option (List ℕ × List ℕ)) (t : List ℕ) → sized (onto x o) (x ∷ t) ≡ suc (sized o t)
sized-onto x None t = refl
sized-onto x (Some p) t = refl

onto-none : (x : ℕ) (o : Option (List ℕ × List ℕ)) → onto x o ≡ None → o ≡ None
onto-none x None e = refl
onto-none x (Some p) e = cc

grown : (c : Bool) (x m : ℕ) (r r' : List ℕ) (o o' : Option (List ℕ × List ℕ)) (t : List ℕ) → (o ≡ None → m ≤ sized o' t) →
    cond c (Some ([], r)) (onto x o) ≡ None → suc m ≤ sized (cond c (Some ([], r')) (onto x o')) (x ∷ t)
grown true x m r r' o o' t ih e = cc
grown false x m r r' o o' t ih e = omega (arith, sized-onto x o' t, ih (onto-none x o e))

single : (x : ℕ) (ys : List ℕ) (c : Bool) → is_newline x ≡ c → length (cond c [] (x ∷ [])) ≤ sized (cut None (x ∷ ys)) (without_last (x ∷ ys))
single x ys true e = omega arith
single x [] false e = let h : length (cond (is_newline x) [] (x ∷ [])) ≡ 1 = ap (λ b. length (cond b [] (x ∷ []))) e in omega arith
single x (y ∷ ys) false e =
    let h : sized (cut None (x ∷ y ∷ ys)) (without_last (x ∷ y ∷ ys)) ≡ suc (sized (cut None (y ∷ ys)) (without_last (y ∷ ys))) =
    ap (λ b. sized (cond (b && is_newline y) (Some ([], ys)) (onto x (cut None (y ∷ ys)))) (x ∷ without_last (y ∷ ys))) e ∙ sized-onto x (cut None (y ∷ ys)) (without_last (y ∷ ys)) in omega arith

-- no separator so far: what is there is no longer than the record will be
pub no_shorter : (rs : Option ℕ) (xs ys : List ℕ) → cut rs xs ≡ None → length (trimmed rs xs) ≤ sized (cut rs (xs ++ ys)) (trimmed rs (xs ++ ys))
no_shorter (Some b) [] ys e = omega arith
no_shorter (Some b) (x ∷ xs) ys e = grown (x == b) x (length xs) xs (xs ++ ys) (cut (Some b) xs) (cut (Some b) (xs ++ ys)) (xs ++ ys) (no_shorter (Some b) xs ys) e
no_shorter None [] ys e = omega arith
no_shorter None (x ∷ []) ys e = single x ys (is_newline x) refl
no_shorter None (x ∷ y ∷ zs) ys e =
    grown (is_newline x && is_newline y) x (length (without_last (y ∷ zs))) zs (zs ++ ys) (cut None (y ∷ zs)) (cut None (y ∷ zs ++ ys)) (without_last (y ∷ zs ++ ys)) (no_shorter None (y ∷ zs) ys) e

-- a paragraph whose last byte is a newline
pub last_newline : (xs : List ℕ) (k : ℕ) → suc k ≡ length xs → get_or xs k 0 ≡ 10 → k ≡ length (without_last xs)
last_newline [] k e h = absurd (omega arith)
last_newline (x ∷ []) zero e h = let t : is_newline x ≡ true = eq-eqb x 10 h in sym (ap (λ b. length (cond b [] (x ∷ []))) t)
last_newline (x ∷ []) (suc k) e h = absurd (omega arith)
last_newline (x ∷ y ∷ xs) zero e h = absurd (omega arith)
last_newline (x ∷ y ∷ xs) (suc k) e h = let t : k ≡ length (without_last (y ∷ xs)) = last_newline (y ∷ xs) k (omega arith) h in omega arith

-- one whose last byte is another
pub last_other : (xs : List ℕ) (k : ℕ) → suc k ≡ length xs → get_or xs k 0 ≢ 10 → length xs ≡ length (without_last xs)
last_other [] k e h = absurd (omega arith)
last_other (x ∷ []) zero e h = let t : is_newline x ≡ false = ne_eqb x 10 h in sym (ap (λ b. length (cond b [] (x ∷ []))) t)
last_other (x ∷ []) (suc k) e h = absurd (omega arith)
last_other (x ∷ y ∷ xs) zero e h = absurd (omega arith)
last_other (x ∷ y ∷ xs) (suc k) e h = let t : length (y ∷ xs) ≡ length (without_last (y ∷ xs)) = last_other (y ∷ xs) k (omega arith) h in omega arith

one_newline : (x : ℕ) (c : Bool) → take (length (cond c [] (x ∷ []))) (x ∷ []) ≡ cond c [] (x ∷ [])
one_newline x true = refl
one_newline x false = refl

trimmed-take : (rs : Option ℕ) (xs : List ℕ) → take (length (trimmed rs xs)) xs ≡ trimmed rs xs
trimmed-take (Some b) xs = take_all (length xs) xs (omega arith)
trimmed-take None [] = refl
trimmed-take None (x ∷ []) = one_newline x (is_newline x)
trimmed-take None (x ∷ y ∷ xs) = ap (λ t. x ∷ t) (trimmed-take None (y ∷ xs))

pub trim_le : (rs : Option ℕ) (xs : List ℕ) → length (trimmed rs xs) ≤ length xs
trim_le rs xs = let e : length (take (length (trimmed rs xs)) xs) ≡ length (trimmed rs xs) = ap length (trimmed-take rs xs) in omega (arith, length-take (length (trimmed rs xs)) xs)

skip_more_at : (c : Bool) (a b n : ℕ) → (a < n → b ≡ a) → cond c (1 + a) 0 < suc n → cond c (1 + b) 0 ≡ cond c (1 + a) 0
skip_more_at true a b n ih k = ap (λ m. 1 + m) (ih (omega arith))
skip_more_at false a b n ih k = refl

skip_le_at : (c : Bool) (a b : ℕ) → a ≤ b → cond c (1 + a) 0 ≤ cond c (1 + b) 0
skip_le_at true a b h = omega arith
skip_le_at false a b h = omega arith

skip_more : (xs ys : List ℕ) → prefix_len is_newline xs < length xs → prefix_len is_newline (xs ++ ys) ≡ prefix_len is_newline xs
skip_more [] ys h = absurd (omega arith)
skip_more (x ∷ xs) ys h = skip_more_at (is_newline x) (prefix_len is_newline xs) (prefix_len is_newline (xs ++ ys)) (length xs) (skip_more xs ys) h

skip_le : (xs ys : List ℕ) → prefix_len is_newline xs ≤ prefix_len is_newline (xs ++ ys)
skip_le [] ys = omega arith
skip_le (x ∷ xs) ys = skip_le_at (is_newline x) (prefix_len is_newline xs) (prefix_len is_newline (xs ++ ys)) (skip_le xs ys)

skipped_more : (rs : Option ℕ) (xs ys : List ℕ) → skipped rs xs < length xs → skipped rs (xs ++ ys) ≡ skipped rs xs
skipped_more (Some b) xs ys h = refl
skipped_more None xs ys h = skip_more xs ys h

skipped_le : (rs : Option ℕ) (xs ys : List ℕ) → skipped rs xs ≤ skipped rs (xs ++ ys)
skipped_le (Some b) xs ys = omega arith
skipped_le None xs ys = skip_le xs ys

abbrev at_most : ℕ → List ℕ → List ℕ → Ending → Result (Got × Source) Fault
at_most n text rest ending = cond (nat_le (n + length text) (2 ^ 26)) (Ok (Record text, record { rest = rest; ending = ending })) (Err TextLimit)

over : (rs : Option ℕ) (ending : Ending) (n : ℕ) (body : List ℕ) (o : Option (List ℕ × List ℕ)) → 2 ^ 26 < n + sized o (trimmed rs body) → of_cut rs ending n body o ≡ Err TextLimit
over rs ending n body None h = ap (λ b. cond b (Ok (of_rest ending (trimmed rs body))) (Err TextLimit)) (lt-leb (n + length (trimmed rs body)) (2 ^ 26) h)
over rs ending n body (Some p) h = ap (λ b. cond b (Ok (Record p.0, record { rest = p.1; ending = ending })) (Err TextLimit)) (lt-leb (n + length p.0) (2 ^ 26) h)

record_at : (rs : Option ℕ) (bytes more : List ℕ) (ending : Ending) (n : ℕ) → skipped rs (bytes ++ more) ≡ n → n ≤ length bytes →
    first_record rs (record { rest = bytes ++ more; ending = ending }) ≡ of_cut rs ending n (drop n bytes ++ more) (cut rs (drop n bytes ++ more))
record_at rs bytes more ending n e h =
    ap (λ k. of_cut rs ending k (drop k (bytes ++ more)) (cut rs (drop k (bytes ++ more)))) e
    ∙ ap (λ xs. of_cut rs ending n xs (cut rs xs)) (drop-append-le n bytes more h)

width-some : (rs : Option ℕ) → 0 < width rs
width-some (Some b) = omega arith
width-some None = omega arith

cut_record : (rs : Option ℕ) (bytes more : List ℕ) (ending : Ending) (n k : ℕ) → skipped rs bytes ≡ n → n ≤ length bytes → k + width rs ≤ length (drop n bytes) →
    cut rs (drop n bytes) ≡ Some (take k (drop n bytes), drop (k + width rs) (drop n bytes)) →
    first_record rs (record { rest = bytes ++ more; ending = ending }) ≡ at_most n (take k (drop n bytes)) (drop (k + width rs) (drop n bytes) ++ more) ending
cut_record rs bytes more ending n k e h fits c =
    let some : n < length bytes = omega (arith, width-some rs, length-drop n bytes) in
    record_at rs bytes more ending n (skipped_more rs bytes more (subst (λ (m : ℕ). m < length bytes) (sym e) some) ∙ e) h
    ∙ ap (of_cut rs ending n (drop n bytes ++ more)) (cut_more rs (drop n bytes) more (take k (drop n bytes), drop (k + width rs) (drop n bytes)) c)

-- a record
pub there : (rs : Option ℕ) (bytes : List ℕ) (n k : ℕ) → skipped rs bytes ≡ n → n ≤ length bytes → k + width rs ≤ length (drop n bytes) →
    cut rs (drop n bytes) ≡ Some (take k (drop n bytes), drop (k + width rs) (drop n bytes)) → n + k ≤ 2 ^ 26 → IsThere rs bytes n (n + k) (n + k + width rs)
there rs bytes n k e h fits c small = record {
  order = omega arith;
  within = omega (arith, length-drop n bytes);
  next_within = omega (arith, length-drop n bytes);
  found = λ more ending.
      cut_record rs bytes more ending n k e h fits c
      ∙ ap (λ b. cond b (Ok (Record (take k (drop n bytes)), record { rest = drop (k + width rs) (drop n bytes) ++ more; ending = ending })) (Err TextLimit)) (le-leb (n + length (take k (drop n bytes))) (2 ^ 26) (omega (arith, length-take k (drop n bytes))))
      ∙ ap (λ j. Ok (Record (take j (drop n bytes)), record { rest = drop (k + width rs) (drop n bytes) ++ more; ending = ending })) (let j : k ≡ n + k - n = omega arith in j)
      ∙ ap (λ xs. Ok (Record (slice_range bytes n (n + k)), record { rest = xs ++ more; ending = ending })) (drop-drop (k + width rs) n bytes ∙ ap (λ j. drop j bytes) (let j : n + (k + width rs) ≡ n + k + width rs = omega arith in j));
}

-- too long a record
pub there_long : (rs : Option ℕ) (bytes : List ℕ) (n k : ℕ) → skipped rs bytes ≡ n → n ≤ length bytes → k + width rs ≤ length (drop n bytes) →
    cut rs (drop n bytes) ≡ Some (take k (drop n bytes), drop (k + width rs) (drop n bytes)) → 2 ^ 26 < n + k → IsLong rs bytes
there_long rs bytes n k e h fits c big more ending =
    cut_record rs bytes more ending n k e h fits c
    ∙ ap (λ b. cond b (Ok (Record (take k (drop n bytes)), record { rest = drop (k + width rs) (drop n bytes) ++ more; ending = ending })) (Err TextLimit)) (lt-leb (n + length (take k (drop n bytes))) (2 ^ 26) (omega (arith, length-take k (drop n bytes))))

-- too long whatever follows
pub open_long : (rs : Option ℕ) (bytes : List ℕ) (n : ℕ) → skipped rs bytes ≡ n → n ≤ length bytes → cut rs (drop n bytes) ≡ None → 2 ^ 26 < n + length (trimmed rs (drop n bytes)) → IsLong rs bytes
open_long rs bytes n e h c big more ending = elim (cases_lt n (length bytes)) [
  | inl some ↦
      record_at rs bytes more ending n (skipped_more rs bytes more (subst (λ (m : ℕ). m < length bytes) (sym e) some) ∙ e) h
      ∙ over rs ending n (drop n bytes ++ more) (cut rs (drop n bytes ++ more)) (omega (arith, no_shorter rs (drop n bytes) more c))
  | inr all ↦
      let none : length (trimmed rs (drop n bytes)) ≤ 0 = omega (arith, trim_le rs (drop n bytes), length-drop n bytes) in
      over rs ending (skipped rs (bytes ++ more)) (drop (skipped rs (bytes ++ more)) (bytes ++ more)) (cut rs (drop (skipped rs (bytes ++ more)) (bytes ++ more)))
      (let up : n ≤ skipped rs (bytes ++ more) = subst (λ (m : ℕ). m ≤ skipped rs (bytes ++ more)) e (skipped_le rs bytes more) in omega arith)
]

-- What was searched need not be searched again.

onto-before : (x : ℕ) (xs : List ℕ) (o : Option (List ℕ × List ℕ)) → onto x (before xs o) ≡ before (x ∷ xs) o
onto-before x xs None = refl
onto-before x xs (Some p) = refl

none_byte : (c : Bool) (x : ℕ) (xs r r' : List ℕ) (o o' q : Option (List ℕ × List ℕ)) → (o ≡ None → o' ≡ before xs q) →
    cond c (Some ([], r)) (onto x o) ≡ None → cond c (Some ([], r')) (onto x o') ≡ before (x ∷ xs) q
none_byte true x xs r r' o o' q ih e = cc
none_byte false x xs r r' o o' q ih e = ap (onto x) (ih (onto-none x o e)) ∙ onto-before x xs q

pub none_on : (rs : Option ℕ) (xs ys : List ℕ) → cut rs xs ≡ None → cut rs (xs ++ ys) ≡ before (take (searched rs xs) xs) (cut rs (drop (searched rs xs) xs ++ ys))
none_on (Some b) [] ys e = sym (before-none (cut (Some b) ys))
none_on (Some b) (x ∷ xs) ys e =
    none_byte (x == b) x (take (length xs) xs) xs (xs ++ ys) (cut (Some b) xs) (cut (Some b) (xs ++ ys)) (cut (Some b) (drop (length xs) xs ++ ys)) (none_on (Some b) xs ys) e
none_on None [] ys e = sym (before-none (cut None ys))
none_on None (x ∷ []) ys e = sym (before-none (cut None (x ∷ ys)))
none_on None (x ∷ y ∷ zs) ys e =
    none_byte (is_newline x && is_newline y) x (take (all_but_one (y ∷ zs)) (y ∷ zs)) zs (zs ++ ys) (cut None (y ∷ zs)) (cut None (y ∷ zs ++ ys)) (cut None (drop (all_but_one (y ∷ zs)) (y ∷ zs) ++ ys)) (none_on None (y ∷ zs) ys) e

zero_plus : (n : ℕ) → n ≡ 0 + n
zero_plus n = omega arith

prefix_on_at : (c : Bool) (x a b : ℕ) (xs ys : List ℕ) → is_newline x ≡ c → b ≡ a + prefix_len is_newline (drop a xs ++ ys) →
    cond c (1 + b) 0 ≡ cond c (1 + a) 0 + prefix_len is_newline (drop (cond c (1 + a) 0) (x ∷ xs) ++ ys)
prefix_on_at true x a b xs ys e h =
    let d : drop (1 + a) (x ∷ xs) ≡ drop a xs = ap (λ m. drop m (x ∷ xs)) (let s : 1 + a ≡ suc a = omega arith in s) in
    let p : prefix_len is_newline (drop (1 + a) (x ∷ xs) ++ ys) ≡ prefix_len is_newline (drop a xs ++ ys) = ap (λ zs. prefix_len is_newline (zs ++ ys)) d in omega arith
prefix_on_at false x a b xs ys e h = let z : prefix_len is_newline (x ∷ xs ++ ys) ≡ 0 = ap (λ c. cond c (1 + prefix_len is_newline (xs ++ ys)) 0) e in omega arith

prefix_on : (xs ys : List ℕ) → prefix_len is_newline (xs ++ ys) ≡ prefix_len is_newline xs + prefix_len is_newline (drop (prefix_len is_newline xs) xs ++ ys)
prefix_on [] ys = zero_plus (prefix_len is_newline ys)
prefix_on (x ∷ xs) ys = prefix_on_at (is_newline x) x (prefix_len is_newline xs) (prefix_len is_newline (xs ++ ys)) xs ys refl (prefix_on xs ys)

skip_on : (rs : Option ℕ) (xs ys : List ℕ) → skipped rs (xs ++ ys) ≡ skipped rs xs + skipped rs (drop (skipped rs xs) xs ++ ys)
skip_on (Some b) xs ys = refl
skip_on None xs ys = prefix_on xs ys

pub searched_le : (rs : Option ℕ) (xs : List ℕ) → searched rs xs ≤ length xs
searched_le (Some b) xs = omega arith
searched_le None [] = omega arith
searched_le None (x ∷ []) = omega arith
searched_le None (x ∷ y ∷ zs) = omega (arith, searched_le None (y ∷ zs))

pub all_but_one_is : (xs : List ℕ) → length xs - 1 ≡ all_but_one xs
all_but_one_is [] = refl
all_but_one_is (x ∷ []) = refl
all_but_one_is (x ∷ y ∷ zs) = let h : length (y ∷ zs) - 1 ≡ all_but_one (y ∷ zs) = all_but_one_is (y ∷ zs) in omega arith

skips_on : (rs : Option ℕ) (bytes more : List ℕ) (n k : ℕ) → skipped rs bytes ≡ n → n + k ≤ length bytes → (c : Bool) → k == 0 ≡ c →
    skipped rs (bytes ++ more) ≡ n + cond c (skipped rs (drop n bytes ++ more)) 0
skips_on rs bytes more n k e h true z = subst (λ (m : ℕ). skipped rs (bytes ++ more) ≡ m + skipped rs (drop m bytes ++ more)) e (skip_on rs bytes more)
skips_on rs bytes more n k e h false z =
    let some : k ≢ 0 = λ is. cc (sym z ∙ eq-eqb k 0 is) in
    skipped_more rs bytes more (subst (λ (m : ℕ). m < length bytes) (sym e) (omega arith)) ∙ e ∙ (let j : n ≡ n + 0 = omega arith in j)

-- what is known where no separator is found
pub scanned : (rs : Option ℕ) (bytes : List ℕ) (n k : ℕ) → skipped rs bytes ≡ n → n ≤ length bytes → cut rs (drop n bytes) ≡ None → k ≡ searched rs (drop n bytes) →
    IsScanned rs bytes (record { skipped = n; searched = k })
scanned rs bytes n k e h c is =
    let in_bytes : n + k ≤ length bytes = let l : k ≤ length (drop n bytes) = subst (λ (m : ℕ). m ≤ length (drop n bytes)) (sym is) (searched_le rs (drop n bytes)) in omega (arith, length-drop n bytes) in
    record {
      within = in_bytes;
      skips = λ more. skips_on rs bytes more n k e in_bytes (k == 0) refl;
      none = λ more. subst (λ (m : ℕ). cut rs (drop n bytes ++ more) ≡ before (take m (drop n bytes)) (cut rs (drop m (drop n bytes) ++ more))) (sym is) (none_on rs (drop n bytes) more c);
    }

-- at first nothing is known
pub scanned_none : (rs : Option ℕ) (bytes : List ℕ) → IsScanned rs bytes (record { skipped = 0; searched = 0 })
scanned_none rs bytes = record { within = omega arith; skips = λ more. zero_plus (skipped rs (bytes ++ more)); none = λ more. sym (before-none (cut rs (bytes ++ more))) }

-- more bytes change nothing of it
pub scanned_more : (rs : Option ℕ) (bytes piece : List ℕ) (known : Known) → IsScanned rs bytes known → IsScanned rs (bytes ++ piece) known
scanned_more rs bytes piece known s =
    let n : ℕ = known.skipped in
    let k : ℕ = known.searched in
    let over_n : n ≤ length bytes = omega (arith, s.within) in
    let d : (more : List ℕ) → drop n (bytes ++ piece) ++ more ≡ drop n bytes ++ (piece ++ more) = λ more. ap (λ xs. xs ++ more) (drop-append-le n bytes piece over_n) ∙ append_assoc (drop n bytes) piece more in
    let inner : k ≤ length (drop n bytes) = omega (arith, s.within, length-drop n bytes) in
    record {
      within = omega (arith, s.within, length-append bytes piece);
      skips = λ more.
          ap (skipped rs) (append_assoc bytes piece more) ∙ s.skips (piece ++ more) ∙ ap (λ xs. n + cond (k == 0) (skipped rs xs) 0) (sym (d more));
      none = λ more.
          ap (cut rs) (d more) ∙ s.none (piece ++ more)
          ∙ ap (λ xs. before xs (cut rs (drop k (drop n bytes) ++ (piece ++ more)))) (sym (ap (take k) (drop-append-le n bytes piece over_n) ∙ take-append-le k (drop n bytes) piece inner))
          ∙ ap (λ xs. before (take k (drop n (bytes ++ piece))) (cut rs xs)) (sym (ap (λ ys. drop k ys ++ more) (drop-append-le n bytes piece over_n) ∙ ap (λ ys. ys ++ more) (drop-append-le k (drop n bytes) piece inner) ∙ append_assoc (drop k (drop n bytes)) piece more));
    }

pub open_more : (rs : Option ℕ) (bytes : List ℕ) (n t k : ℕ) → skipped rs bytes ≡ n → n ≤ length bytes → cut rs (drop n bytes) ≡ None → t ≡ length (trimmed rs (drop n bytes)) → n + t ≤ 2 ^ 26 →
    length (drop n bytes) ≤ t + 1 → k ≡ searched rs (drop n bytes) → IsOpen rs bytes n (n + t) (record { skipped = n; searched = k })
open_more rs bytes n t k e h c is small most s = record {
  order = omega arith;
  within = omega (arith, trim_le rs (drop n bytes), length-drop n bytes);
  short = omega (arith, length-drop n bytes);
  rest = λ ending.
      ap (λ k. of_cut rs ending k (drop k bytes) (cut rs (drop k bytes))) e ∙ ap (of_cut rs ending n (drop n bytes)) c
      ∙ ap (λ b. cond b (Ok (of_rest ending (trimmed rs (drop n bytes)))) (Err TextLimit)) (le-leb (n + length (trimmed rs (drop n bytes))) (2 ^ 26) (subst (λ (m : ℕ). n + m ≤ 2 ^ 26) is small))
      ∙ ap (λ xs. Ok (of_rest ending xs)) (sym (trimmed-take rs (drop n bytes)) ∙ ap (λ j. take j (drop n bytes)) (let j : length (trimmed rs (drop n bytes)) ≡ n + t - n = omega arith in j));
  known = scanned rs bytes n k e h c s;
}

-- Finding.

-- no separator begins at these places
pub none_between : (rs : Option ℕ) (bytes : List ℕ) (i n : ℕ) → HasNoneBefore rs i bytes → i + n ≤ length bytes → ((k : ℕ) → i ≤ k → k < i + n → begins rs (drop k bytes) ≡ false) → HasNoneBefore rs (i + n) bytes
none_between rs bytes i zero h fits nowhere = subst (λ (m : ℕ). HasNoneBefore rs m bytes) (let e : i ≡ i + 0 = omega arith in e) h
none_between rs bytes i (suc n) h fits nowhere =
    let so_far : HasNoneBefore rs (i + n) bytes = none_between rs bytes i n h (omega arith) (λ k low high. nowhere k low (omega arith)) in
    subst (λ (m : ℕ). HasNoneBefore rs m bytes) (let e : i + n + 1 ≡ i + suc n = omega arith in e) (so_far ∙ cut_next rs bytes (i + n) (omega arith) (nowhere (i + n) (omega arith) (omega arith)))

-- none begins at all
pub none_at_all : (rs : Option ℕ) (bytes : List ℕ) → HasNoneBefore rs (length bytes) bytes → cut rs bytes ≡ None
none_at_all rs bytes h = h ∙ ap (λ xs. before (take (length bytes) bytes) (cut rs xs)) (drop_all bytes)
  where
    drop_all : (xs : List ℕ) → drop (length xs) xs ≡ []
    drop_all [] = refl
    drop_all (x ∷ xs) = drop_all xs

pub begins_byte : (b : ℕ) (bytes : List ℕ) (k : ℕ) → k < length bytes → begins (Some b) (drop k bytes) ≡ (get_or bytes k 0 == b)
begins_byte b bytes k h = ap (begins (Some b)) (drop-cons bytes k 0 h)

pub scanned_kept : (rs : Option ℕ) (xs ys : List ℕ) (known : Known) → take (length xs) ys ≡ xs → IsScanned rs xs known → IsScanned rs ys known
scanned_kept rs xs ys known e h =
    subst (λ (zs : List ℕ). IsScanned rs zs known) (ap (λ zs. zs ++ drop (length xs) ys) (sym e) ∙ take-append-drop (length xs) ys) (scanned_more rs xs (drop (length xs) ys) known h)
