-- The first record of a source is what its bytes are made of, and nothing else is.
use Rattle.std.proofs.Common.{◌≡◌, ◌⊎◌, inl, inr, ℕ, suc, ◌+◌, ◌≤◌, Bool, true, false, cond, List, [], ◌∷◌, ◌++◌, length, drop, Option, Some, None, Result, Ok, Err, refl, sym, ap, subst, ◌∙◌, arith}
use Rattle.std.specs.Prelude.{◌↔◌, nat_le, if◌then◌else◌}
use Rattle.std.specs.List.{prefix_len}
use Rattle.std.proofs.Math.Seq.{drop-append_seam}
use Rattle.std.proofs.lemmas.Bool.{and_parts, eq-eqb, eqb-false, eqb-true, le-leb, leb-false, leb-true, lt-leb, ne_eqb}
use Rattle.awk_text.specs.Bytes.{newline}
use Rattle.awk_values.specs.declared.fault.Fault.{Fault}
use Rattle.awk_values.specs.declared.fault.Fault.TheVariants.{TextLimit}
use Rattle.world_core.specs.declared.world.Ending.{Ending}
use Rattle.world_core.specs.declared.world.Ending.TheVariants.{End, Fails}
use Rattle.world_core.specs.WorldState.{Source}
use Rattle.sem_primitives.specs.Limits.{most_text}
use Rattle.sem_primitives.specs.Records.{Got, Record, is_newline, begins, width, onto, cut, skipped, without_last, trimmed, of_rest, of_cut, first_record}
use Rattle.agreement.specs.Input.Records.{separator, AllNewlines, BeginsOtherwise, AreSkipped, NoneBefore, NoneIn, IsLast, got_last, GivesFirst, separated, too_long, last, last_too_long}

-- ---- where bytes begin with a separator

begins_with : (rs : Option ℕ) (bytes : List ℕ) → begins rs bytes ≡ true → (rest : List ℕ) × (bytes ≡ separator rs ++ rest) × (drop (width rs) bytes ≡ rest)
begins_with rs [] e = absurd cc
begins_with (Some b) (x ∷ xs) e = (xs, ap (λ c. c ∷ xs) (eqb-true x b e), refl)
begins_with None (x ∷ []) e = absurd cc
begins_with None (x ∷ y ∷ xs) e =
    let both = and_parts (is_newline x) (is_newline y) e in
    (xs, ap (λ c. c ∷ y ∷ xs) (eqb-true x newline both.0) ∙ ap (λ c. newline ∷ c ∷ xs) (eqb-true y newline both.1), refl)

separator_begins : (rs : Option ℕ) (rest : List ℕ) → begins rs (separator rs ++ rest) ≡ true
separator_begins (Some b) rest = eq-eqb b b refl
separator_begins None rest = refl

separator_dropped : (rs : Option ℕ) (rest : List ℕ) → drop (width rs) (separator rs ++ rest) ≡ rest
separator_dropped (Some b) rest = refl
separator_dropped None rest = refl

none_shorter : (rs : Option ℕ) (front rest : List ℕ) → [] ≡ front ++ (separator rs ++ rest) → ⊥
none_shorter (Some b) [] rest e = cc e
none_shorter None [] rest e = cc e
none_shorter rs (x ∷ xs) rest e = cc e

-- ---- the first separator

-- what `cut` finds
abbrev IsCut : Option ℕ → List ℕ → Option (List ℕ × List ℕ) → Type 0
IsCut rs bytes None = NoneIn rs bytes
IsCut rs bytes (Some p) = (bytes ≡ p.0 ++ (separator rs ++ p.1)) × NoneBefore rs (length p.0) bytes

tail_of : List ℕ → List ℕ
tail_of [] = []
tail_of (x ∷ xs) = xs

-- a separator that does not begin at a byte begins behind it
not_here : (rs : Option ℕ) (x : ℕ) (xs front rest : List ℕ) → begins rs (x ∷ xs) ≡ false → x ∷ xs ≡ front ++ (separator rs ++ rest)
    → (y : ℕ) × (more : List ℕ) × (front ≡ y ∷ more) × (xs ≡ more ++ (separator rs ++ rest))
unfolding tail_of
not_here rs x xs [] rest e is = absurd (cc (sym e ∙ ap (begins rs) is ∙ separator_begins rs rest))
not_here rs x xs (y ∷ more) rest e is = (y, more, refl, ap tail_of is)

cut_is : (rs : Option ℕ) (bytes : List ℕ) → IsCut rs bytes (cut rs bytes)
cut_is rs [] = none_shorter rs
cut_is rs (x ∷ xs) = by (begins rs (x ∷ xs)) refl (cut rs xs) (cut_is rs xs)
  where
    by : (b : Bool) → begins rs (x ∷ xs) ≡ b → (r : Option (List ℕ × List ℕ)) → IsCut rs xs r
        → IsCut rs (x ∷ xs) (cond b (Some ([], drop (width rs) (x ∷ xs))) (onto x r))
    by true e r h =
        let here = begins_with rs (x ∷ xs) e in
        (here.1 ∙ ap (separator rs ++◌) (sym here.2), λ front rest is. omega arith)
    by false e None h = λ front rest is. let there = not_here rs x xs front rest e is in h there.1 rest there.3
    by false e (Some p) h = (
      ap (x ∷◌) h.0,
      λ front rest is.
          let there = not_here rs x xs front rest e is in
          let before = h.1 there.1 rest there.3 in
          subst (λ z. suc (length p.0) ≤ length z) (sym there.2) (omega (arith, before)),
    )

-- ---- and there is no other

nothing_below : (n : ℕ) → suc n ≤ 0 → ⊥
nothing_below n low = omega (arith, low)

head_none : (rs : Option ℕ) (x : ℕ) (xs : List ℕ) (n : ℕ) → NoneBefore rs (suc n) (x ∷ xs) → begins rs (x ∷ xs) ≡ false
head_none rs x xs n none = by (begins rs (x ∷ xs)) refl
  where
    by : (b : Bool) → begins rs (x ∷ xs) ≡ b → b ≡ false
    by true e = let here = begins_with rs (x ∷ xs) e in let low = none [] here.0 here.1 in absurd (nothing_below n low)
    by false e = refl

tail_none : (rs : Option ℕ) (x : ℕ) (xs : List ℕ) (n : ℕ) → NoneBefore rs (suc n) (x ∷ xs) → NoneBefore rs n xs
tail_none rs x xs n none front rest is = let low = none (x ∷ front) rest (ap (x ∷◌) is) in omega (arith, low)

cut_there : (rs : Option ℕ) (text rest : List ℕ) → NoneBefore rs (length text) (text ++ (separator rs ++ rest)) → cut rs (text ++ (separator rs ++ rest)) ≡ Some (text, rest)
cut_there (Some b) [] rest none = ap (λ c. cond c (Some ([], rest)) (onto b (cut (Some b) rest))) (separator_begins (Some b) rest)
cut_there None [] rest none = refl
cut_there rs (x ∷ xs) rest none =
    ap (λ c. cond c (Some ([], drop (width rs) (x ∷ (xs ++ (separator rs ++ rest))))) (onto x (cut rs (xs ++ (separator rs ++ rest)))))
    (head_none rs x (xs ++ (separator rs ++ rest)) (length xs) none)
    ∙ ap (onto x) (cut_there rs xs rest (tail_none rs x (xs ++ (separator rs ++ rest)) (length xs) none))

cut_none : (rs : Option ℕ) (bytes : List ℕ) → NoneIn rs bytes → cut rs bytes ≡ None
cut_none rs bytes none = by (cut rs bytes) (cut_is rs bytes)
  where
    by : (r : Option (List ℕ × List ℕ)) → IsCut rs bytes r → r ≡ None
    by None h = refl
    by (Some p) h = absurd (none p.0 p.1 h.0)

-- ---- newlines that are skipped

newlines_there : (front rest : List ℕ) → AllNewlines front → BeginsOtherwise rest → prefix_len is_newline (front ++ rest) ≡ length front
newlines_there [] [] all other = refl
newlines_there [] (c ∷ cs) all other = ap (λ b. cond b (1 + prefix_len is_newline cs) 0) (ne_eqb c newline other)
newlines_there (c ∷ cs) rest all other =
    ap (λ b. cond b (1 + prefix_len is_newline (cs ++ rest)) 0) (eq-eqb c newline all.0)
    ∙ (let more = newlines_there cs rest all.1 other in omega (arith, more))

skipped_there : (rs : Option ℕ) (front rest : List ℕ) → AreSkipped rs front rest → skipped rs (front ++ rest) ≡ length front
skipped_there (Some b) front rest s = sym (ap length s)
skipped_there None front rest s = newlines_there front rest s.0 s.1

-- the parts of bytes
record AreParts (rs : Option ℕ) (bytes : List ℕ) : Type 0 where
  front : List ℕ
  rest : List ℕ
  whole : bytes ≡ front ++ rest
  skips : AreSkipped rs front rest

newlines_of : (bytes : List ℕ) → AreParts None bytes
newlines_of [] = record { front = []; rest = []; whole = refl; skips = (tt, tt) }
newlines_of (c ∷ cs) = by (is_newline c) refl (newlines_of cs)
  where
    by : (b : Bool) → is_newline c ≡ b → AreParts None cs → AreParts None (c ∷ cs)
    by true e p = record { front = c ∷ p.front; rest = p.rest; whole = ap (c ∷◌) p.whole; skips = ((eqb-true c newline e, p.skips.0), p.skips.1) }
    by false e p = record { front = []; rest = c ∷ cs; whole = refl; skips = (tt, eqb-false c newline e) }

parts : (rs : Option ℕ) (bytes : List ℕ) → AreParts rs bytes
parts (Some b) bytes = record { front = []; rest = bytes; whole = refl; skips = refl }
parts None bytes = newlines_of bytes

-- ---- the last text

no_newline_at_end : (front : List ℕ) → [] ≡ front ++ (newline ∷ []) → ⊥
no_newline_at_end [] e = cc e
no_newline_at_end (c ∷ cs) e = cc e

abbrev IsLastText : List ℕ → List ℕ → Type 0
IsLastText bytes text = (bytes ≡ text ++ (newline ∷ [])) ⊎ ((bytes ≡ text) × ((front : List ℕ) → bytes ≡ front ++ (newline ∷ []) → ⊥))

head_of : List ℕ → ℕ
head_of [] = 0
head_of (c ∷ cs) = c

-- a byte before bytes that do not end in a newline
none_behind : (x y : ℕ) (rest : List ℕ) → ((front : List ℕ) → y ∷ rest ≡ front ++ (newline ∷ []) → ⊥) → (front : List ℕ) → x ∷ y ∷ rest ≡ front ++ (newline ∷ []) → ⊥
unfolding tail_of
none_behind x y rest none [] e = cc (ap tail_of e)
none_behind x y rest none (c ∷ cs) e = none cs (ap tail_of e)

one_other : (x : ℕ) → (x ≡ newline → ⊥) → (front : List ℕ) → x ∷ [] ≡ front ++ (newline ∷ []) → ⊥
unfolding head_of tail_of
one_other x other [] e = other (ap head_of e)
one_other x other (c ∷ cs) e = no_newline_at_end cs (ap tail_of e)

last_text : (bytes : List ℕ) → IsLastText bytes (without_last bytes)
last_text [] = inr (refl, no_newline_at_end)
last_text (x ∷ []) = by (is_newline x) refl
  where
    by : (b : Bool) → is_newline x ≡ b → IsLastText (x ∷ []) (cond b [] (x ∷ []))
    by true e = inl (ap (λ c. c ∷ []) (eqb-true x newline e))
    by false e = inr (refl, one_other x (eqb-false x newline e))
last_text (x ∷ y ∷ rest) = by (last_text (y ∷ rest))
  where
    by : IsLastText (y ∷ rest) (without_last (y ∷ rest)) → IsLastText (x ∷ y ∷ rest) (x ∷ without_last (y ∷ rest))
    by (inl e) = inl (ap (x ∷◌) e)
    by (inr h) = inr (ap (x ∷◌) h.0, none_behind x y rest h.1)

is_last : (rs : Option ℕ) (bytes : List ℕ) → IsLast rs bytes (trimmed rs bytes)
is_last (Some b) bytes = refl
is_last None bytes = last_text bytes

newline_off : (text : List ℕ) → without_last (text ++ (newline ∷ [])) ≡ text
newline_off [] = refl
newline_off (c ∷ []) = refl
newline_off (c ∷ d ∷ ds) = ap (c ∷◌) (newline_off (d ∷ ds))

all_kept : (bytes : List ℕ) → ((front : List ℕ) → bytes ≡ front ++ (newline ∷ []) → ⊥) → without_last bytes ≡ bytes
all_kept [] none = refl
all_kept (x ∷ []) none = by (is_newline x) refl
  where
    by : (b : Bool) → is_newline x ≡ b → cond b [] (x ∷ []) ≡ x ∷ []
    by true e = absurd (none [] (ap (λ c. c ∷ []) (eqb-true x newline e)))
    by false e = refl
all_kept (x ∷ y ∷ rest) none = ap (x ∷◌) (all_kept (y ∷ rest) (λ front is. none (x ∷ front) (ap (x ∷◌) is)))

last_there : (rs : Option ℕ) (bytes text : List ℕ) → IsLast rs bytes text → trimmed rs bytes ≡ text
last_there (Some b) bytes text e = e
last_there None bytes text (inl e) = ap without_last e ∙ newline_off text
last_there None bytes text (inr h) = all_kept bytes h.1 ∙ h.0

rest_got : (ending : Ending) (text : List ℕ) → of_rest ending text ≡ (got_last ending text, record { rest = []; ending = ending })
rest_got Fails text = refl
rest_got End [] = refl
rest_got End (c ∷ cs) = refl

-- ---- the record

value : (rs : Option ℕ) (front rest : List ℕ) (ending : Ending) → AreSkipped rs front rest
    → first_record rs (record { rest = front ++ rest; ending = ending }) ≡ of_cut rs ending (length front) rest (cut rs rest)
value rs front rest ending s =
    ap (λ n. of_cut rs ending n (drop n (front ++ rest)) (cut rs (drop n (front ++ rest)))) (skipped_there rs front rest s)
    ∙ ap (λ z. of_cut rs ending (length front) z (cut rs z)) (drop-append_seam front rest)

abbrev Answer : Type 0
Answer = Result (Got × Source) Fault

gives_at : (rs : Option ℕ) (front rest : List ℕ) (ending : Ending) → AreSkipped rs front rest
    → GivesFirst rs (record { rest = front ++ rest; ending = ending }) (of_cut rs ending (length front) rest (cut rs rest))
gives_at rs front rest ending s = by (cut rs rest) (cut_is rs rest)
  where
    last_fits : NoneIn rs rest → (b : Bool) → nat_le (length front + length (trimmed rs rest)) most_text ≡ b
        → GivesFirst rs (record { rest = front ++ rest; ending = ending }) (if b then Ok (of_rest ending (trimmed rs rest)) else Err TextLimit)
    last_fits none true e = subst (λ z. GivesFirst rs (record { rest = front ++ rest; ending = ending }) (Ok z)) (sym (rest_got ending (trimmed rs rest)))
        (last front rest (trimmed rs rest) s none (is_last rs rest) (leb-true _ _ e))
    last_fits none false e = last_too_long front rest (trimmed rs rest) s none (is_last rs rest) (leb-false _ _ e)

    separated_fits : (text behind : List ℕ) → AreSkipped rs front (text ++ (separator rs ++ behind)) → NoneBefore rs (length text) (text ++ (separator rs ++ behind))
        → (b : Bool) → nat_le (length front + length text) most_text ≡ b
        → GivesFirst rs (record { rest = front ++ (text ++ (separator rs ++ behind)); ending = ending })
        (if b then Ok (Record text, record { rest = behind; ending = ending }) else Err TextLimit)
    separated_fits text behind skips none true e = separated front text behind skips none (leb-true _ _ e)
    separated_fits text behind skips none false e = too_long front text behind skips none (leb-false _ _ e)

    by : (r : Option (List ℕ × List ℕ)) → IsCut rs rest r → GivesFirst rs (record { rest = front ++ rest; ending = ending }) (of_cut rs ending (length front) rest r)
    by None h = last_fits h (nat_le (length front + length (trimmed rs rest)) most_text) refl
    by (Some p) h = subst (λ z. GivesFirst rs (record { rest = front ++ z; ending = ending }) (of_cut rs ending (length front) rest (Some p))) (sym h.0)
        (separated_fits p.0 p.1 (subst (AreSkipped rs front) h.0 s) (subst (NoneBefore rs (length p.0)) h.0 h.1) (nat_le (length front + length p.0) most_text) refl)

gives : (rs : Option ℕ) (source : Source) → GivesFirst rs source (first_record rs source)
gives rs source = by (parts rs source.rest)
  where
    by : AreParts rs source.rest → GivesFirst rs source (first_record rs source)
    by p = subst (λ z. GivesFirst rs (record { rest = z; ending = source.ending }) (first_record rs (record { rest = z; ending = source.ending }))) (sym p.whole)
        (subst (GivesFirst rs (record { rest = p.front ++ p.rest; ending = source.ending })) (sym (value rs p.front p.rest source.ending p.skips))
        (gives_at rs p.front p.rest source.ending p.skips))

-- ---- and there is no other

of_separated : (rs : Option ℕ) (front text rest : List ℕ) (ending : Ending) → AreSkipped rs front (text ++ (separator rs ++ rest))
    → NoneBefore rs (length text) (text ++ (separator rs ++ rest)) → (b : Bool) → nat_le (length front + length text) most_text ≡ b
    → first_record rs (record { rest = front ++ (text ++ (separator rs ++ rest)); ending = ending })
    ≡ (if b then Ok (Record text, record { rest = rest; ending = ending }) else Err TextLimit)
of_separated rs front text rest ending s none b e =
    value rs front (text ++ (separator rs ++ rest)) ending s
    ∙ ap (of_cut rs ending (length front) (text ++ (separator rs ++ rest))) (cut_there rs text rest none)
    ∙ ap (λ c. if c then Ok (Record text, record { rest = rest; ending = ending }) else Err TextLimit) e

of_last : (rs : Option ℕ) (front bytes text : List ℕ) (ending : Ending) → AreSkipped rs front bytes → NoneIn rs bytes → IsLast rs bytes text
    → (b : Bool) → nat_le (length front + length text) most_text ≡ b
    → first_record rs (record { rest = front ++ bytes; ending = ending })
    ≡ (if b then Ok (got_last ending text, record { rest = []; ending = ending }) else Err TextLimit)
of_last rs front bytes text ending s none l b e =
    value rs front bytes ending s
    ∙ ap (of_cut rs ending (length front) bytes) (cut_none rs bytes none)
    ∙ ap (λ z. if nat_le (length front + length z) most_text then Ok (of_rest ending z) else Err TextLimit) (last_there rs bytes text l)
    ∙ ap (λ c. if c then Ok (of_rest ending text) else Err TextLimit) e
    ∙ ap (λ z. if b then Ok z else Err TextLimit) (rest_got ending text)

made : {rs : Option ℕ} {source : Source} {answer : Answer} → GivesFirst rs source answer → first_record rs source ≡ answer
made {rs} (separated front text rest {ending} s none fits) = of_separated rs front text rest ending s none true (le-leb _ _ fits)
made {rs} (too_long front text rest {ending} s none long) = of_separated rs front text rest ending s none false (lt-leb _ _ long)
made {rs} (last front bytes text {ending} s none l fits) = of_last rs front bytes text ending s none l true (le-leb _ _ fits)
made {rs} (last_too_long front bytes text {ending} s none l long) = of_last rs front bytes text ending s none l false (lt-leb _ _ long)

pub first_records : (rs : Option ℕ) (source : Source) (answer : Answer) → GivesFirst rs source answer ↔ (first_record rs source ≡ answer)
first_records rs source answer = (made, λ e. subst (GivesFirst rs source) e (gives rs source))
