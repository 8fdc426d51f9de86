-- Formats, a piece at a time.
use Rattle.std.proofs.Common.{◌≡◌, ℕ, zero, suc, ◌+◌, ◌^◌, ◌<◌, ◌≤◌, Bool, true, false, List, [], ◌∷◌, ◌++◌, length, take, drop, get_or, Option, Some, None, Result, Ok, Err, refl, sym, ap, subst, ◌∙◌, append_assoc, append-nil, arith, eqb-true, inl, inr}
use Rattle.std.specs.Prelude.{◌==◌, nat_le, if◌then◌else◌}
use Rattle.std.proofs.lemmas.Bool.Decides.{nat_tests}
use Rattle.std.proofs.lemmas.Bool.{cases_lt}
use Rattle.std.proofs.lemmas.List.{drop_more, get_or-take, length-append, length-take, take-append-drop}
use Rattle.memchr.specs.Find.{IsFirstByte, is_byte}
use Rattle.awk_values.specs.declared.fault.Fault.{Fault}
use Rattle.awk_values.specs.declared.fault.Fault.TheVariants.{Format, TextLimit}
use Rattle.awk_values.specs.declared.fault.Stop.{Stop}
use Rattle.awk_values.specs.declared.fault.Stop.TheVariants as stops
use Rattle.awk_values.specs.declared.value.Value.{Value}
use Rattle.sem_primitives.specs.SharedState.{◌>>=◌}
use Rattle.sem_primitives.specs.Formats.{Piece, Ordinary, Converts, Malformed, conversion_at, converted, formatted, formatted_from, pieces_from, sized, then_text}
use Rattle.host_bytes.specs.Growing.{IsMade, StandsAfter}
use Rattle.host_bytes.specs.Outcomes.{AddsOutcome, IsPast, IsStopAfter, IsStopOf}
use Rattle.host_bytes.specs.Steps.{IsLeftBy, IsLeftOf, behind_text, step, text_of_step}

-- a text that is added
within_limit : (n : ℕ) → n ≤ 2 ^ 26 → nat_le n (2 ^ 26) ≡ true
within_limit n h = grind (arith, nat_tests)

past_limit : (n : ℕ) → 2 ^ 26 < n → nat_le n (2 ^ 26) ≡ false
past_limit n h = grind (arith, nat_tests)

sized_ok : (before : ℕ) (text : List ℕ) → before + length text ≤ 2 ^ 26 → sized before text ≡ Ok (before + length text)
sized_ok before text h = ap (λ b. if b then Ok (before + length text) else Err TextLimit) (within_limit (before + length text) h)

sized_past : (before : ℕ) (text : List ℕ) → 2 ^ 26 < before + length text → sized before text ≡ Err TextLimit
sized_past before text h = ap (λ b. if b then Ok (before + length text) else Err TextLimit) (past_limit (before + length text) h)

behind_more : (out text : List ℕ) (outcome : Result (List ℕ) Fault) → behind_text out (outcome >>= λ rest. Ok (text ++ rest)) ≡ behind_text (out ++ text) outcome
behind_more out text (Ok rest) = ap (λ xs. Ok xs) (sym (append_assoc out text rest))
behind_more out text (Err fault) = refl

pub text_step : (out text : List ℕ) (go : ℕ → Result (List ℕ) Fault) → length (out ++ text) ≤ 2 ^ 26 → behind_text out (then_text (length out) text go) ≡ behind_text (out ++ text) (go (length (out ++ text)))
text_step out text go h =
    let size = length-append out text in
    ap (λ x. behind_text out (x >>= λ n. go n >>= λ rest. Ok (text ++ rest))) (sized_ok (length out) text (omega (arith, h, size)))
    ∙ (behind_more out text (go (length out + length text)) ∙ ap (λ n. behind_text (out ++ text) (go n)) (sym size))

pub text_past : (out text : List ℕ) (go : ℕ → Result (List ℕ) Fault) → 2 ^ 26 < length (out ++ text) → behind_text out (then_text (length out) text go) ≡ Err TextLimit
text_past out text go h =
    ap (λ x. behind_text out (x >>= λ n. go n >>= λ rest. Ok (text ++ rest))) (sized_past (length out) text (let size = length-append out text in omega (arith, h, size)))

-- bytes that stand for themselves

abbrev pub NoPercent : List ℕ → Type 0
NoPercent xs = (k : ℕ) → k < length xs → (get_or xs k 0 == 37) ≡ true → ⊥

plain_piece : (n c : ℕ) (cs : List ℕ) → ((c == 37) ≡ true → ⊥) → pieces_from (suc n) (c ∷ cs) ≡ Ordinary c ∷ pieces_from n cs
plain_piece n c cs h = by (c == 37) h
  where
    by : (b : Bool) → (b ≡ true → ⊥) → ((if b then conversion_at cs else (Ordinary c, cs)).0 ∷ pieces_from n (if b then conversion_at cs else (Ordinary c, cs)).1) ≡ Ordinary c ∷ pieces_from n cs
    by true k = absurd (k refl)
    by false k = refl

abbrev pub left_text : ℕ → List ℕ → List Value → List ℕ → Result (List ℕ) Fault
left_text count rest values out = behind_text out (formatted_from (length out) (pieces_from count rest) values)

plain_step : (n c : ℕ) (cs out : List ℕ) (values : List Value) → ((c == 37) ≡ true → ⊥) → length (out ++ (c ∷ [])) ≤ 2 ^ 26 → left_text (suc n) (c ∷ cs) values out ≡ left_text n cs values (out ++ (c ∷ []))
plain_step n c cs out values h low =
    ap (λ ps. behind_text out (formatted_from (length out) ps values)) (plain_piece n c cs h) ∙ text_step out (c ∷ []) (λ m. formatted_from m (pieces_from n cs) values) low

plain_past : (n c : ℕ) (cs out : List ℕ) (values : List Value) → ((c == 37) ≡ true → ⊥) → 2 ^ 26 < length (out ++ (c ∷ [])) → left_text (suc n) (c ∷ cs) values out ≡ Err TextLimit
plain_past n c cs out values h low =
    ap (λ ps. behind_text out (formatted_from (length out) ps values)) (plain_piece n c cs h) ∙ text_past out (c ∷ []) (λ m. formatted_from m (pieces_from n cs) values) low

-- how many pieces are enough after some bytes, and what they come to
pub record IsAfter (count : ℕ) (xs rest out : List ℕ) (values : List Value) : Type 0 where
  pub left : ℕ
  pub enough : length rest ≤ left
  pub outcome : left_text count (xs ++ rest) values out ≡ left_text left rest values (out ++ xs)

pub plain_text : (xs rest out : List ℕ) (values : List Value) (count : ℕ) → NoPercent xs → length (xs ++ rest) ≤ count → length (out ++ xs) ≤ 2 ^ 26 → IsAfter count xs rest out values
plain_text [] rest out values count h enough low = record {
  left = count;
  enough = enough;
  outcome = ap (λ ys. left_text count rest values ys) (sym (append-nil out));
}
plain_text (c ∷ cs) rest out values zero h enough low = absurd (omega arith)
plain_text (c ∷ cs) rest out values (suc n) h enough low =
    let joined = append_assoc out (c ∷ []) cs in
    let ih = plain_text cs rest (out ++ (c ∷ [])) values n (λ k less. h (suc k) (omega arith)) (omega arith) (subst (λ ys. length ys ≤ 2 ^ 26) (sym joined) low) in
    record {
      left = ih.left;
      enough = ih.enough;
      outcome = plain_step n c (cs ++ rest) out values (h 0 (omega arith)) (let size = length-append (out ++ (c ∷ [])) cs in let same = ap length joined in omega (arith, low, size, same))
          ∙ (ih.outcome ∙ ap (λ ys. left_text ih.left rest values ys) joined);
    }

pub plain_text_past : (xs rest out : List ℕ) (values : List Value) (count : ℕ) → NoPercent xs → length (xs ++ rest) ≤ count → length out ≤ 2 ^ 26 → 2 ^ 26 < length (out ++ xs) → left_text count (xs ++ rest) values out ≡ Err TextLimit
plain_text_past [] rest out values count h enough low high = absurd (let size = ap length (append-nil out) in omega (arith, low, high, size))
plain_text_past (c ∷ cs) rest out values zero h enough low high = absurd (omega arith)
plain_text_past (c ∷ cs) rest out values (suc n) h enough low high =
    let joined = append_assoc out (c ∷ []) cs in
    elim (cases_lt (2 ^ 26) (length (out ++ (c ∷ [])))) [
      | inl past ↦ plain_past n c (cs ++ rest) out values (h 0 (omega arith)) past
      | inr within ↦ plain_step n c (cs ++ rest) out values (h 0 (omega arith)) within
          ∙ plain_text_past cs rest (out ++ (c ∷ [])) values n (λ k less. h (suc k) (omega arith)) (omega arith) within (subst (λ ys. 2 ^ 26 < length ys) (sym joined) high)
    ]

-- a directive

abbrev pub step_text : ℕ → List ℕ → Result (List ℕ × List Value) Fault → List ℕ → Result (List ℕ) Fault
step_text n rest x out = behind_text out (x >>= λ y. then_text (length out) y.0 (λ m. formatted_from m (pieces_from n rest) y.1))

with_step : (n : ℕ) (p : Piece) (rest out : List ℕ) (values : List Value) → behind_text out (formatted_from (length out) (p ∷ pieces_from n rest) values) ≡ step_text n rest (step p values) out
with_step n (Ordinary c) rest out values = refl
with_step n (Converts d) rest out [] = refl
with_step n (Converts d) rest out (v ∷ values) = by (converted d d.specifier v)
  where
    by : (x : Result (List ℕ) Fault) → behind_text out (x >>= λ text. then_text (length out) text (λ m. formatted_from m (pieces_from n rest) values)) ≡ step_text n rest (x >>= λ text. Ok (text, values)) out
    by (Ok text) = refl
    by (Err fault) = refl
with_step n Malformed rest out values = refl

-- a percent sign, and what it stands for
pub percent_step : (n : ℕ) (cs out : List ℕ) (values : List Value) (p : Piece) (rest : List ℕ) → conversion_at cs ≡ (p, rest) → left_text (suc n) (37 ∷ cs) values out ≡ step_text n rest (step p values) out
percent_step n cs out values p rest e =
    ap (λ x. behind_text out (formatted_from (length out) (x.0 ∷ pieces_from n x.1) values)) e ∙ with_step n p rest out values

pub percent_malformed : (n : ℕ) (cs out : List ℕ) (values : List Value) → (conversion_at cs).0 ≡ Malformed → left_text (suc n) (37 ∷ cs) values out ≡ Err Format
percent_malformed n cs out values e = ap (λ p. behind_text out (formatted_from (length out) (p ∷ pieces_from n (conversion_at cs).1) values)) e

stepped_on : (n : ℕ) (rest out new : List ℕ) (values : List Value) (x : Result (List ℕ × List Value) Fault) → AddsOutcome out new (text_of_step x) → IsLeftBy x values → step_text n rest x out ≡ left_text n rest values new
stepped_on n rest out new values (Ok y) a left =
    text_step out y.0 (λ m. formatted_from m (pieces_from n rest) y.1) (subst (λ ys. length ys ≤ 2 ^ 26) a.added a.within)
    ∙ (ap (λ ys. left_text n rest y.1 ys) (sym a.added) ∙ ap (λ vs. left_text n rest vs new) (sym left))
stepped_on n rest out new values (Err fault) a left = absurd a

pub stopped_at : (n : ℕ) (rest out : List ℕ) (x : Result (List ℕ × List Value) Fault) (s : Stop) → IsStopAfter out (text_of_step x) s → IsStopOf (step_text n rest x out) s
stopped_at n rest out (Ok y) (stops.Fault fault) h = text_past out y.0 (λ m. formatted_from m (pieces_from n rest) y.1) h.1 ∙ ap (λ f. Err f) (sym h.0)
stopped_at n rest out (Ok y) stops.NoMemory h = tt
stopped_at n rest out (Err f) (stops.Fault fault) h = ap (λ x. behind_text out (x >>= λ y. then_text (length out) y (λ m. Ok []))) h
stopped_at n rest out (Err f) stops.NoMemory h = tt

-- What is left, on the way.

at_percent : (xs : List ℕ) (at : ℕ) → IsFirstByte (is_byte 37) xs (Some at) → take at xs ++ (37 ∷ drop (at + 1) xs) ≡ xs
at_percent xs at h =
    let high = h.0.high in
    ap (λ c. take at xs ++ (c ∷ drop (at + 1) xs)) (sym (eqb-true (get_or xs at 0) 37 h.1))
    ∙ (ap (λ ys. take at xs ++ ys) (sym (drop_more xs at 0 high)) ∙ take-append-drop at xs)

none_before : (xs : List ℕ) (at : ℕ) → IsFirstByte (is_byte 37) xs (Some at) → NoPercent (take at xs)
none_before xs at h = λ k less same.
    let high = h.0.high in
    let low : k < at = omega (arith, less, length-take at xs) in
    h.0.before k (omega arith) low (subst (λ c. (c == 37) ≡ true) (get_or-take at xs k 0 low) same)

enough_for : (xs ys : List ℕ) (count : ℕ) → xs ≡ ys → length ys ≤ count → length xs ≤ count
enough_for xs ys count e h = subst (λ zs. length zs ≤ count) (sym e) h

after_plain : (format : List ℕ) (values : List Value) (out rest new : List ℕ) (left : List Value) (at : ℕ) → IsLeftOf format values out rest left → IsFirstByte (is_byte 37) rest (Some at) → new ≡ out ++ take at rest → length new ≤ 2 ^ 26 → IsLeftOf format values new (37 ∷ drop (at + 1) rest) left
after_plain format values out rest new left at l h e low =
    let whole = at_percent rest at h in
    let after = plain_text (take at rest) (37 ∷ drop (at + 1) rest) out left l.count (none_before rest at h) (enough_for _ rest l.count whole l.enough) (subst (λ ys. length ys ≤ 2 ^ 26) e low) in
    record {
      count = after.left;
      enough = after.enough;
      outcome = ap (λ ys. left_text after.left (37 ∷ drop (at + 1) rest) left ys) e
          ∙ (sym after.outcome ∙ (ap (λ ys. left_text l.count ys left out) whole ∙ l.outcome));
    }

plain_stops : (format : List ℕ) (values : List Value) (out rest : List ℕ) (left : List Value) (at : ℕ) (s : Stop) → IsLeftOf format values out rest left → IsFirstByte (is_byte 37) rest (Some at) → length out ≤ 2 ^ 26 → IsPast (out ++ take at rest) s → IsStopOf (formatted format values) s
plain_stops format values out rest left at (stops.Fault fault) l h low past =
    let whole = at_percent rest at h in
    sym (ap (λ ys. left_text l.count ys left out) whole ∙ l.outcome)
    ∙ (plain_text_past (take at rest) (37 ∷ drop (at + 1) rest) out left l.count (none_before rest at h) (enough_for _ rest l.count whole l.enough) low past.1
    ∙ ap (λ f. Err f) (sym past.0))
plain_stops format values out rest left at stops.NoMemory l h low past = tt

after_directive : (format : List ℕ) (values : List Value) (out cs : List ℕ) (left : List Value) (p : Piece) (after new : List ℕ) (next : List Value) → IsLeftOf format values out (37 ∷ cs) left → conversion_at cs ≡ (p, after) → length after ≤ length cs → AddsOutcome out new (text_of_step (step p left)) → IsLeftBy (step p left) next → IsLeftOf format values new after next
after_directive format values out cs left p after new next l e shorter adds is = by l.count l.enough l.outcome
  where
    by : (count : ℕ) → suc (length cs) ≤ count → left_text count (37 ∷ cs) left out ≡ formatted format values → IsLeftOf format values new after next
    by zero enough outcome = absurd (omega arith)
    by (suc n) enough outcome = record {
      count = n;
      enough = omega arith;
      outcome = sym (percent_step n cs out left p after e ∙ stepped_on n after out new next (step p left) adds is) ∙ outcome;
    }

directive_stops : (format : List ℕ) (values : List Value) (out cs : List ℕ) (left : List Value) (p : Piece) (after : List ℕ) (s : Stop) → IsLeftOf format values out (37 ∷ cs) left → conversion_at cs ≡ (p, after) → IsStopAfter out (text_of_step (step p left)) s → IsStopOf (formatted format values) s
directive_stops format values out cs left p after s l e h = by l.count l.enough l.outcome
  where
    by : (count : ℕ) → suc (length cs) ≤ count → left_text count (37 ∷ cs) left out ≡ formatted format values → IsStopOf (formatted format values) s
    by zero enough outcome = absurd (omega arith)
    by (suc n) enough outcome = subst (λ x. IsStopOf x s) (sym (percent_step n cs out left p after e) ∙ outcome) (stopped_at n after out (step p left) s h)

malformed_stops : (format : List ℕ) (values : List Value) (out cs : List ℕ) (left : List Value) → IsLeftOf format values out (37 ∷ cs) left → (conversion_at cs).0 ≡ Malformed → formatted format values ≡ Err Format
malformed_stops format values out cs left l e = by l.count l.enough l.outcome
  where
    by : (count : ℕ) → suc (length cs) ≤ count → left_text count (37 ∷ cs) left out ≡ formatted format values → formatted format values ≡ Err Format
    by zero enough outcome = absurd (omega arith)
    by (suc n) enough outcome = sym outcome ∙ percent_malformed n cs out left e

nothing_left : (n : ℕ) (left : List Value) (out : List ℕ) → left_text n [] left out ≡ Ok out
nothing_left zero left out = ap (λ xs. Ok xs) (append-nil out)
nothing_left (suc n) left out = ap (λ xs. Ok xs) (append-nil out)

none_in : (xs : List ℕ) → IsFirstByte (is_byte 37) xs None → NoPercent xs
none_in xs h = λ k less same. h k (omega arith) less same

ends : (format : List ℕ) (values : List Value) (out rest new : List ℕ) (left : List Value) → IsLeftOf format values out rest left → IsFirstByte (is_byte 37) rest None → new ≡ out ++ rest → length new ≤ 2 ^ 26 → formatted format values ≡ Ok new
ends format values out rest new left l h e low =
    let after = plain_text rest [] out left l.count (none_in rest h) (enough_for _ rest l.count (append-nil rest) l.enough) (subst (λ ys. length ys ≤ 2 ^ 26) e low) in
    sym l.outcome ∙ (ap (λ ys. left_text l.count ys left out) (sym (append-nil rest)) ∙ (after.outcome ∙ (nothing_left after.left left (out ++ rest) ∙ ap (λ xs. Ok xs) (sym e))))

end_stops : (format : List ℕ) (values : List Value) (out rest : List ℕ) (left : List Value) (s : Stop) → IsLeftOf format values out rest left → IsFirstByte (is_byte 37) rest None → length out ≤ 2 ^ 26 → IsPast (out ++ rest) s → IsStopOf (formatted format values) s
end_stops format values out rest left (stops.Fault fault) l h low past =
    sym l.outcome
    ∙ (ap (λ ys. left_text l.count ys left out) (sym (append-nil rest))
    ∙ (plain_text_past rest [] out left l.count (none_in rest h) (enough_for _ rest l.count (append-nil rest) l.enough) low past.1 ∙ ap (λ f. Err f) (sym past.0)))
end_stops format values out rest left stops.NoMemory l h low past = tt

-- The text so far: what is left, or why it stopped.

abbrev pub GoesOn : Option Stop → List ℕ → List Value → List ℕ → List ℕ → List Value → Type 0
GoesOn None format values out rest left = (length out ≤ 2 ^ 26) × IsLeftOf format values out rest left
GoesOn (Some stop) format values out rest left = IsStopOf (formatted format values) stop

pub goes_plain : (p q : Option Stop) (format : List ℕ) (values : List Value) (old new rest : List ℕ) (left : List Value) (at : ℕ) → GoesOn p format values old rest left → IsFirstByte (is_byte 37) rest (Some at) → StandsAfter p q old new (Ok (take at rest)) → GoesOn q format values new (37 ∷ drop (at + 1) rest) left
goes_plain None None format values old new rest left at i h g = (g.within, after_plain format values old rest new left at i.1 h g.added g.within)
goes_plain None (Some s) format values old new rest left at i h g = plain_stops format values old rest left at s i.1 h i.0 g
goes_plain (Some s) q format values old new rest left at i h g = subst (λ k. GoesOn k format values new (37 ∷ drop (at + 1) rest) left) (sym g) i

within_of : (out new : List ℕ) (outcome : Result (List ℕ) Fault) → AddsOutcome out new outcome → length new ≤ 2 ^ 26
within_of out new (Ok text) a = a.within
within_of out new (Err fault) a = absurd a

pub goes_directive : (p q : Option Stop) (format : List ℕ) (values : List Value) (old new cs : List ℕ) (left : List Value) (piece : Piece) (after : List ℕ) (next : List Value) → GoesOn p format values old (37 ∷ cs) left → conversion_at cs ≡ (piece, after) → length after ≤ length cs → StandsAfter p q old new (text_of_step (step piece left)) → IsLeftBy (step piece left) next → GoesOn q format values new after next
goes_directive None None format values old new cs left piece after next i e shorter g is =
    (within_of old new (text_of_step (step piece left)) g, after_directive format values old cs left piece after new next i.1 e shorter g is)
goes_directive None (Some s) format values old new cs left piece after next i e shorter g is = directive_stops format values old cs left piece after s i.1 e g
goes_directive (Some s) q format values old new cs left piece after next i e shorter g is = subst (λ k. GoesOn k format values new after next) (sym g) i

pub goes_malformed : (p q : Option Stop) (format : List ℕ) (values : List Value) (old new cs : List ℕ) (left : List Value) → GoesOn p format values old (37 ∷ cs) left → (conversion_at cs).0 ≡ Malformed → StandsAfter p q old new (Err Format) → IsMade q new (formatted format values)
goes_malformed None None format values old new cs left i e g = absurd g
goes_malformed None (Some (stops.Fault fault)) format values old new cs left i e g = malformed_stops format values old cs left i.1 e ∙ g
goes_malformed None (Some stops.NoMemory) format values old new cs left i e g = tt
goes_malformed (Some s) q format values old new cs left i e g = subst (λ k. IsMade k new (formatted format values)) (sym g) i

pub goes_end : (p q : Option Stop) (format : List ℕ) (values : List Value) (old new rest : List ℕ) (left : List Value) → GoesOn p format values old rest left → IsFirstByte (is_byte 37) rest None → StandsAfter p q old new (Ok rest) → IsMade q new (formatted format values)
goes_end None None format values old new rest left i h g = ends format values old rest new left i.1 h g.added g.within
goes_end None (Some s) format values old new rest left i h g = end_stops format values old rest left s i.1 h i.0 g
goes_end (Some s) q format values old new rest left i h g = subst (λ k. IsMade k new (formatted format values)) (sym g) i
