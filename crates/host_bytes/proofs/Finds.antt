-- The first place at which a text stands in another.
use Rattle.std.proofs.Common.{◌≡◌, ℕ, zero, suc, ◌+◌, ◌-◌, ◌<◌, ◌≤◌, Bool, true, false, List, [], ◌∷◌, length, drop, get_or, refl, ap, ◌∙◌, arith, sym, subst, Option, Some, None, inl, inr}
use Rattle.std.specs.Prelude.{◌==◌, ◌&&◌, if◌then◌else◌}
use Rattle.std.proofs.lemmas.Bool.{eqb-true, eq-eqb, false≢true, cases_Bool}
use Rattle.std.proofs.lemmas.List.{get_or-drop, length-drop}
use Rattle.memchr.specs.Find.{OccursAt, FindsNeedle, IsFirstByte, Passes, is_byte}
use Rattle.memchr.proofs.lemmas.FindLemmas.{IsFirst-agree, IsFirst-wider, OccursAt-byte, byte-OccursAt}
use Rattle.sem_primitives.specs.Texts.{begins_with}
use Rattle.sem_primitives.specs.TextMeaning.{place_of, place_from}

-- one text begins another where each byte is there
begins : (wanted text : List ℕ) → length wanted ≤ length text → ((j : ℕ) → j < length wanted → get_or text j 0 ≡ get_or wanted j 0) → begins_with wanted text ≡ true
begins [] text le same = refl
begins (c ∷ cs) [] le same = absurd (omega arith)
begins (c ∷ cs) (d ∷ ds) le same =
    let e : (c == d) ≡ true = eq-eqb c d (sym (same 0 (omega arith))) in
    ap (λ b. b && begins_with cs ds) e ∙ begins cs ds (omega arith) (λ j low. same (suc j) (omega arith))

pub record Begins (wanted text : List ℕ) : Type 0 where
  pub fits : length wanted ≤ length text
  pub same : (j : ℕ) → j < length wanted → get_or text j 0 ≡ get_or wanted j 0

both : (a b : Bool) → (a && b) ≡ true → (a ≡ true) × (b ≡ true)
both true b e = (refl, e)
both false b e = (e, absurd (false≢true e))

same_next : (c d : ℕ) (cs ds : List ℕ) → c ≡ d → Begins cs ds → (j : ℕ) → j < suc (length cs) → get_or (d ∷ ds) j 0 ≡ get_or (c ∷ cs) j 0
same_next c d cs ds e b zero low = sym e
same_next c d cs ds e b (suc j) low = b.same j (omega arith)

begun : (wanted text : List ℕ) → begins_with wanted text ≡ true → Begins wanted text
begun [] text e = record { fits = omega arith; same = λ j low. absurd (omega arith) }
begun (c ∷ cs) [] e = absurd (false≢true e)
begun (c ∷ cs) (d ∷ ds) e =
    let two = both (c == d) (begins_with cs ds) e in
    let rest = begun cs ds two.1 in
    record { fits = (let f = rest.fits in omega arith); same = same_next c d cs ds (eqb-true c d two.0) rest }

-- it stands at a place where it begins what is left

begins_at : (text wanted : List ℕ) (k : ℕ) → OccursAt text wanted k → begins_with wanted (drop k text) ≡ true
begins_at text wanted k o =
    begins wanted (drop k text) (simp length-drop (let f = o.fits in omega arith)) (λ j low. get_or-drop k text j 0 ∙ o.reads j low)

occurs_at : (text wanted : List ℕ) (k : ℕ) → k ≤ length text → begins_with wanted (drop k text) ≡ true → OccursAt text wanted k
occurs_at text wanted k low e =
    let b = begun wanted (drop k text) e in
    record {
      fits = (let f : length wanted ≤ length text - k = subst (λ n. length wanted ≤ n) (length-drop k text) b.fits in omega arith);
      reads = λ j less. sym (get_or-drop k text j 0) ∙ b.same j less;
    }

not_true : (b : Bool) → (b ≡ true → ⊥) → b ≡ false
not_true b never = elim (cases_Bool b) [ inl held ↦ absurd (never held) | inr e ↦ e ]

place_by : (b : Bool) (p m : ℕ) → b ≡ false → (if b then p else m) ≡ m
place_by b p m e = ap (λ x. if x then p else m) e

found_from : (p at : ℕ) (wanted text : List ℕ) → at < length text → begins_with wanted (drop at text) ≡ true → ((j : ℕ) → j < at → begins_with wanted (drop j text) ≡ false) → place_from p wanted text ≡ at + p
found_from p at wanted [] low here before = absurd (omega arith)
found_from p zero wanted (c ∷ cs) low here before = let e : p ≡ 0 + p = omega arith in ap (λ b. if b then p else place_from (p + 1) wanted cs) here ∙ e
found_from p (suc at) wanted (c ∷ cs) low here before =
    let e : at + (p + 1) ≡ suc at + p = omega arith in
    place_by (begins_with wanted (c ∷ cs)) p (place_from (p + 1) wanted cs) (before 0 (omega arith))
    ∙ (found_from (p + 1) at wanted cs (omega arith) here (λ j less. before (suc j) (omega arith)) ∙ e)

none_from : (p : ℕ) (wanted text : List ℕ) → ((j : ℕ) → j < length text → begins_with wanted (drop j text) ≡ false) → place_from p wanted text ≡ 0
none_from p wanted [] none = refl
none_from p wanted (c ∷ cs) none =
    place_by (begins_with wanted (c ∷ cs)) p (place_from (p + 1) wanted cs) (none 0 (omega arith))
    ∙ none_from (p + 1) wanted cs (λ j less. none (suc j) (omega arith))

unless_empty : (text wanted : List ℕ) → 0 < length wanted → place_of text wanted ≡ place_from 1 wanted text
unless_empty text [] some = absurd (omega arith)
unless_empty text (c ∷ cs) some = refl

pub place_found : (text wanted : List ℕ) (at : ℕ) → 0 < length wanted → FindsNeedle text wanted 0 (Some at) → at + 1 ≡ place_of text wanted
place_found text wanted at some h =
    let fits = h.1.fits in
    sym (unless_empty text wanted some ∙ found_from 1 at wanted text (omega (arith, fits, some)) (begins_at text wanted at h.1)
    (λ j less. not_true (begins_with wanted (drop j text)) (λ e. h.0.before j (omega arith) less (occurs_at text wanted j (omega arith) e))))

pub place_missing : (text wanted : List ℕ) → 0 < length wanted → FindsNeedle text wanted 0 None → 0 ≡ place_of text wanted
place_missing text wanted some h =
    sym (unless_empty text wanted some ∙ none_from 1 wanted text (λ j less. not_true (begins_with wanted (drop j text)) (λ e. h j (omega arith) (omega arith) (occurs_at text wanted j (omega arith) e))))

pub some : (text : List ℕ) (b : Bool) → b ≡ (length text == 0) → b ≡ false → 0 < length text
some [] b e f = absurd (false≢true (sym f ∙ e))
some (c ∷ cs) b e f = omega arith

-- a text of one byte stands where that byte does
pub byte_found : (text wanted : List ℕ) (r : Option ℕ) → length wanted ≡ 1 → IsFirstByte (is_byte (get_or wanted 0 0)) text r → FindsNeedle text wanted 0 r
byte_found text wanted r one h =
    IsFirst-wider (OccursAt text wanted) 0 (length text) (length text + 1) (omega arith) (λ k q. let fits = q.fits in omega (arith, fits, one)) r
    (IsFirst-agree (Passes (is_byte (get_or wanted 0 0)) text) (OccursAt text wanted) 0 (length text)
    (λ k low p. OccursAt-byte text wanted one k low p) (λ k low q. byte-OccursAt text wanted one k q) r h)
