-- The pieces between marks, from the first mark on.
use Rattle.std.proofs.Common.{◌≡◌, ◌⊎◌, inl, inr, ℕ, zero, suc, ◌+◌, ◌-◌, ◌<◌, ◌≤◌, Bool, true, false, List, [], ◌∷◌, ◌++◌, map, length, take, drop, get_or, slice_range, Some, None, refl, sym, ap, subst, ◌∙◌, append-nil, append_assoc, arith}
use Rattle.std.specs.Prelude.{◌||◌}
use Rattle.std.proofs.lemmas.Bool.{false≢true, cases_Bool}
use Rattle.std.proofs.lemmas.List.{length-drop, length-take, drop-drop, drop_more, map-append}
use Rattle.std.proofs.lemmas.List.Elements.{All-nil, All-push}
use Rattle.std.specs.List.{All}
use Rattle.memchr.specs.Find.{IsFirstByte}
use Rattle.sem_primitives.specs.Fields.{behind, parted}
use Rattle.host_bytes.proofs.Rests.{rest_of}
use Rattle.host_format.specs.Marks.{kept}
use Rattle.host_format.specs.Spans.{AreSpans, IsInside, IsSoFar, span_text}
use Rattle.host_format.specs.declared.span.Span.{Span}

abbrev Test : Type 0
Test = ℕ → Bool

no_mark : (test : Test) (c : ℕ) → (test c ≡ true → ⊥) → test c ≡ false
no_mark test c never = elim (cases_Bool (test c)) [ inl held ↦ absurd (never held) | inr e ↦ e ]

parted_first : (test : Test) (xs : List ℕ) (at : ℕ) → at < length xs → ((k : ℕ) → k < at → test (get_or xs k 0) ≡ true → ⊥) → test (get_or xs at 0) ≡ true → parted test xs ≡ take at xs ∷ parted test (drop (suc at) xs)
parted_first test [] at low before here = absurd (omega arith)
parted_first test (c ∷ cs) zero low before here = ap (λ b. behind b c (parted test cs)) here
parted_first test (c ∷ cs) (suc at) low before here =
    ap (λ b. behind b c (parted test cs)) (no_mark test c (before 0 (omega arith)))
    ∙ ap (λ ps. behind false c ps) (parted_first test cs at (omega arith) (λ k less. before (suc k) (omega arith)) here)

parted_none : (test : Test) (xs : List ℕ) → ((k : ℕ) → k < length xs → test (get_or xs k 0) ≡ true → ⊥) → parted test xs ≡ xs ∷ []
parted_none test [] none = refl
parted_none test (c ∷ cs) none =
    ap (λ b. behind b c (parted test cs)) (no_mark test c (none 0 (omega arith)))
    ∙ ap (λ ps. behind false c ps) (parted_none test cs (λ k less. none (suc k) (omega arith)))

-- the piece up to a mark, and the pieces from the place behind it on
pub pieces_at : (test : Test) (text : List ℕ) (from at : ℕ) → IsFirstByte test (drop from text) (Some at) → parted test (drop from text) ≡ slice_range text from (from + at) ∷ parted test (drop (from + at + 1) text)
pieces_at test text from at h =
    let high = h.0.high in
    let size : from + at - from ≡ at = omega arith in
    let next : from + suc at ≡ from + at + 1 = omega arith in
    parted_first test (drop from text) at high (λ k less. h.0.before k (omega arith) less) h.1
    ∙ ap (λ xs. take at (drop from text) ∷ parted test xs) (drop-drop (suc at) from text ∙ ap (λ n. drop n text) next)
    ∙ ap (λ n. take n (drop from text) ∷ parted test (drop (from + at + 1) text)) (sym size)

pub mark_inside : (test : Test) (text : List ℕ) (from at : ℕ) → IsFirstByte test (drop from text) (Some at) → from + at < length text
mark_inside test text from at h = let high = h.0.high in omega (arith, high, length-drop from text)

pub last_piece : (test : Test) (text : List ℕ) (from : ℕ) → IsFirstByte test (drop from text) None → parted test (drop from text) ≡ slice_range text from (length text) ∷ []
last_piece test text from h =
    parted_none test (drop from text) (λ k less. h k (omega arith) less) ∙ ap (λ xs. xs ∷ []) (sym (rest_of text from))

pub parted_same : (f g : Test) → ((c : ℕ) → f c ≡ g c) → (text : List ℕ) → parted f text ≡ parted g text
parted_same f g same [] = refl
parted_same f g same (c ∷ cs) = ap (λ b. behind b c (parted f cs)) (same c) ∙ ap (λ ps. behind (g c) c ps) (parted_same f g same cs)

-- Pieces that are kept.

pub kept_full : (skip : Bool) (p : List ℕ) (ps : List (List ℕ)) → (0 < length p) ⊎ (skip ≡ false) → kept skip (p ∷ ps) ≡ p ∷ kept skip ps
kept_full false p ps some = refl
kept_full true [] ps some = elim some [ inl less ↦ absurd (omega (arith, less)) | inr e ↦ absurd (false≢true (sym e)) ]
kept_full true (c ∷ cs) ps some = refl

pub kept_empty : (skip : Bool) (p : List ℕ) (ps : List (List ℕ)) → length p ≤ 0 → skip ≡ true → kept skip (p ∷ ps) ≡ kept skip ps
kept_empty false p ps none e = absurd (false≢true e)
kept_empty true [] ps none e = refl
kept_empty true (c ∷ cs) ps none e = absurd (omega (arith, none))

-- The parts so far.

pub begun : (text : List ℕ) (pieces : List (List ℕ)) → IsSoFar text [] pieces pieces
begun text pieces = record { texts = refl; inside = All-nil (IsInside text) }

pub with_rest : (text : List ℕ) (spans : List Span) (rest other pieces : List (List ℕ)) → rest ≡ other → IsSoFar text spans rest pieces → IsSoFar text spans other pieces
with_rest text spans rest other pieces e s = subst (λ x. IsSoFar text spans x pieces) e s

pub all_parts : (text : List ℕ) (spans : List Span) (pieces : List (List ℕ)) → IsSoFar text spans [] pieces → AreSpans text spans pieces
all_parts text spans pieces s = record { texts = sym (append-nil (map (span_text text) spans)) ∙ s.texts; inside = s.inside }

pub ruleset so_far = (begun, all_parts)

-- each byte by itself
abbrev pub singles : List ℕ → List (List ℕ)
singles text = map (λ c. c ∷ []) text

pub single_at : (text : List ℕ) (at : ℕ) → at < length text → singles (drop at text) ≡ slice_range text at (at + 1) ∷ singles (drop (at + 1) text)
single_at text at low =
    let size : at + 1 - at ≡ 1 = omega arith in
    let more = drop_more text at 0 low in
    ap singles more ∙ ap (λ xs. xs ∷ singles (drop (at + 1) text)) (sym (ap (λ n. take n (drop at text)) size ∙ ap (λ xs. take 1 xs) more))

pub or_false : (b : Bool) → (b || false) ≡ b
or_false true = refl
or_false false = refl

pub length_of_range : (text : List ℕ) (line to : ℕ) → to ≤ length text → length (slice_range text line to) ≡ to - line
length_of_range text line to inside = length-take (to - line) (drop line text) ∙ omega (arith, inside, length-drop line text)

pub kept_none : (skip : Bool) → kept skip [] ≡ []
kept_none true = refl
kept_none false = refl

-- a part more
pub part_pushed : (text : List ℕ) (old new : List Span) (start end : ℕ) (rest total : List (List ℕ)) → start ≤ end → end ≤ length text → new ≡ old ++ record { start = start; end = end } ∷ [] → IsSoFar text old (slice_range text start end ∷ rest) total → IsSoFar text new rest total
part_pushed text old new start end rest total order within e s =
    let part : Span = record { start = start; end = end } in
    let parts = span_text text in
    record {
      texts = ap (λ spans. map parts spans ++ rest) e ∙ ap (λ texts. texts ++ rest) (map-append parts old (part ∷ [])) ∙ append_assoc (map parts old) (parts part ∷ []) rest ∙ s.texts;
      inside = subst (λ spans. All (IsInside text) spans) (sym e) (All-push (IsInside text) old part s.inside (order, within));
    }
