-- The pieces between separators, from the first separator on.
use Rattle.std.proofs.Common.{◌≡◌, inl, inr, ℕ, zero, suc, ◌+◌, ◌-◌, ◌<◌, ◌≤◌, Bool, true, false, List, [], ◌∷◌, length, drop, get_or, slice_range, Option, Some, None, refl, sym, ap, subst, ◌∙◌, arith, le_refl}
use Rattle.std.specs.Prelude.{◌==◌, IfSome, is_some, nat_lt, if◌then◌else◌}
use Rattle.std.proofs.lemmas.Bool.{true≢false, cases_Bool, cases_lt}
use Rattle.std.proofs.lemmas.List.{get_or-drop, get_or-take, length-take}
use Rattle.memchr.specs.Find.{IsFirstByte, is_byte}
use Rattle.ere_syntax.specs.Tree.{Tree}
use Rattle.sem_primitives.specs.FirstMatch.{first_by, longest, or_next}
use Rattle.sem_primitives.specs.Fields.{Expression, between, end_or_newline, newline_end, pieces, separators}
use Rattle.host_format.specs.Between.{IsOpen, separator_end}
use Rattle.host_format.specs.Expressions.{IsFirstAt, IsFirstBy, not_empty, unless_empty}
use Rattle.host_format.specs.Spans.{AreSpans, IsSoFar}
use Rattle.host_format.specs.declared.span.Span.{Span}
use Rattle.host_bytes.proofs.Rests.{rest_of}
use Rattle.host_format.proofs.Pieces.{all_parts, begun, length_of_range, with_rest}

abbrev End : Type 0
End = ℕ → Option ℕ

-- what is computed is the first place that has an end
first_by_at : (end : End) (n at s e : ℕ) → IsFirstAt end at (n + at) s e → first_by end n at ≡ Some (s, e)
first_by_at end zero at s e f = (let low = f.low in let high = f.high in absurd (omega (arith, low, high)))
first_by_at end (suc n) at s e f = elim (cases_lt at s) [
  | inl less ↦ ap (λ o. or_next o at (first_by end n)) (f.before at (omega arith) less)
      ∙ first_by_at end n (at + 1) s e (record {
        low = omega (arith, less);
        high = (let high = f.high in omega (arith, high));
        is = f.is;
        before = λ k low high. f.before k (omega (arith, low)) high;
      })
  | inr not ↦ (
      let same : s ≡ at = (let low = f.low in omega (arith, low, not)) in
      let is : end at ≡ Some e = subst (λ x. end x ≡ Some e) same f.is in
      ap (λ o. or_next o at (first_by end n)) is ∙ ap (λ x. Some (x, e)) (sym same))
]

first_by_none : (end : End) (n at : ℕ) → ((k : ℕ) → at ≤ k → k < n + at → end k ≡ None) → first_by end n at ≡ None
first_by_none end zero at none = refl
first_by_none end (suc n) at none =
    ap (λ o. or_next o at (first_by end n)) (none at (omega arith) (omega arith))
    ∙ first_by_none end n (at + 1) (λ k low high. none k (omega (arith, low)) (omega (arith, high)))

cut_by : (end : End) (size n at : ℕ) (r : Option (ℕ × ℕ)) → first_by end (size - at) at ≡ r → separators end size (suc n) at ≡ elim r [ None ↦ [] | Some p ↦ p ∷ separators end size n p.1 ]
cut_by end size n at r e = ap (λ x. elim x [ None ↦ [] | Some p ↦ p ∷ separators end size n p.1 ]) e

-- the pieces from a separator on
pub record IsReady (end : End) (text : List ℕ) (spans : List Span) (from s e : ℕ) (total : List (List ℕ)) : Type 0 where
  pub count : ℕ
  pub enough : length text ≤ count + e
  pub pieces : IsSoFar text spans (slice_range text from s ∷ between text e (separators end (length text) count e)) total

ready_by : (end : End) (text : List ℕ) (spans : List Span) (from s e : ℕ) (total : List (List ℕ)) (n : ℕ) → length text ≤ n + from → s < e → IsFirstAt end from (length text) s e → IsSoFar text spans (between text from (separators end (length text) n from)) total → IsReady end text spans from s e total
ready_by end text spans from s e total zero enough less f p = (let low = f.low in let high = f.high in absurd (omega (arith, low, high, enough)))
ready_by end text spans from s e total (suc n) enough less f p =
    let low = f.low in
    let high = f.high in
    let sum : length text ≡ length text - from + from = omega (arith, low, high) in
    let first = first_by_at end (length text - from) from s e (subst (λ k. IsFirstAt end from k s e) sum f) in
    record {
      count = n;
      enough = omega (arith, enough, low, less);
      pieces = with_rest text spans _ _ total (ap (λ ps. between text from ps) (cut_by end (length text) n from (Some (s, e)) first)) p;
    }

pub ready : (end : End) (text : List ℕ) (spans : List Span) (from s e : ℕ) (total : List (List ℕ)) → s < e → IsFirstAt end from (length text) s e → IsOpen end text spans from total → IsReady end text spans from s e total
ready end text spans from s e total less f o = ready_by end text spans from s e total o.count o.enough less f o.pieces

pub opened : (end : End) (text : List ℕ) (spans : List Span) (from : ℕ) (total : List (List ℕ)) (n : ℕ) → length text ≤ n + from → IsSoFar text spans (between text from (separators end (length text) n from)) total → IsOpen end text spans from total
opened end text spans from total n enough p = record { count = n; enough = enough; pieces = p }

none_by : (end : End) (size n at : ℕ) → at ≤ size → ((k : ℕ) → at ≤ k → k < size → end k ≡ None) → separators end size n at ≡ []
none_by end size zero at low none = refl
none_by end size (suc n) at low none =
    cut_by end size n at None (first_by_none end (size - at) at (λ k a b. none k a (omega (arith, low, b))))

-- the last piece
pub closed : (end : End) (text : List ℕ) (spans : List Span) (from : ℕ) (total : List (List ℕ)) → from ≤ length text → ((k : ℕ) → from ≤ k → k < length text → end k ≡ None) → IsOpen end text spans from total → IsSoFar text spans (slice_range text from (length text) ∷ []) total
closed end text spans from total low none o =
    with_rest text spans _ _ total (ap (λ ps. between text from ps) (none_by end (length text) o.count from low none) ∙ ap (λ xs. xs ∷ []) (sym (rest_of text from))) o.pieces

-- Newlines.

abbrev pub Agrees : End → Bool → List ℕ → ℕ → ℕ → Type 0
Agrees end newlines text from to = (k : ℕ) → from ≤ k → k < to → end k ≡ newline_end newlines text k

at_part : (text : List ℕ) (from to k : ℕ) → k < to - from → get_or (slice_range text from to) k 0 ≡ get_or text (from + k) 0
at_part text from to k low = get_or-take (to - from) (drop from text) k 0 low ∙ get_or-drop from text k 0

no_newline : (text : List ℕ) (k : ℕ) → ((get_or text k 0 == 10) ≡ true → ⊥) → newline_end true text k ≡ None
no_newline text k never = elim (cases_Bool (get_or text k 0 == 10)) [
  | inl held ↦ absurd (never held)
  | inr e ↦ ap (λ b. if b then Some (k + 1) else None) e
]

newline_there : (text : List ℕ) (k : ℕ) → (get_or text k 0 == 10) ≡ true → newline_end true text k ≡ Some (k + 1)
newline_there text k held = ap (λ b. if b then Some (k + 1) else None) held

same_place : (line k : ℕ) → line ≤ k → line + (k - line) ≡ k
same_place line k le = omega (arith, le)

moved : (text : List ℕ) (line to k : ℕ) → line ≤ k → k < to → get_or (slice_range text line to) (k - line) 0 ≡ get_or text k 0
moved text line to k low high = at_part text line to (k - line) (omega (arith, low, high)) ∙ ap (λ n. get_or text n 0) (same_place line k low)

pub line_at : (end : End) (text : List ℕ) (from to line at : ℕ) → to ≤ length text → from ≤ line → line ≤ to → Agrees end true text from to → IsFirstByte (is_byte 10) (slice_range text line to) (Some at) → (at < to - line) × IsFirstAt end line (length text) (line + at) (line + at + 1)
line_at end text from to line at inside low high agrees h =
    let size = h.0.high in
    let less : at < to - line = omega (arith, size, length-take (to - line) (drop line text)) in (
      less,
      record {
        low = omega arith;
        high = omega (arith, less, inside);
        is = agrees (line + at) (omega (arith, low)) (omega (arith, less))
            ∙ newline_there text (line + at) (subst (λ x. (x == 10) ≡ true) (at_part text line to at less) h.1);
        before = λ k a b.
            agrees k (omega (arith, low, a)) (omega (arith, b, less))
            ∙ no_newline text k (λ held. h.0.before (k - line) (omega arith) (omega (arith, a, b)) (subst (λ x. (x == 10) ≡ true) (sym (moved text line to k a (omega (arith, b, less)))) held));
      },
    )

pub in_range : (test : ℕ → Bool) (text : List ℕ) (line to at : ℕ) → to ≤ length text → IsFirstByte test (slice_range text line to) (Some at) → at < to - line
in_range test text line to at inside h = let size = h.0.high in omega (arith, size, length_of_range text line to inside)

pub no_lines : (end : End) (text : List ℕ) (from to line : ℕ) → to ≤ length text → from ≤ line → Agrees end true text from to → IsFirstByte (is_byte 10) (slice_range text line to) None → (k : ℕ) → line ≤ k → k < to → end k ≡ None
no_lines end text from to line inside low agrees h k a b =
    let size : length (slice_range text line to) ≡ to - line = length_of_range text line to inside in
    agrees k (omega (arith, low, a)) b
    ∙ no_newline text k (λ held. h (k - line) (omega arith) (omega (arith, a, b, size)) (subst (λ x. (x == 10) ≡ true) (sym (moved text line to k a b)) held))

-- Matches and newlines.

some_is_none : {n : ℕ} → Some n ≡ None → ⊥
some_is_none e = absurd (true≢false (ap (λ o. is_some o) e))

not_less_none : (b : Bool) (e : ℕ) (o : Option ℕ) → (if b then Some e else None) ≡ None → (if b then Some e else o) ≡ o
not_less_none true e o never = absurd (some_is_none never)
not_less_none false e o never = refl

by_newline : (newlines : Bool) (text : List ℕ) (k : ℕ) (o : Option ℕ) → unless_empty k o ≡ None → end_or_newline newlines text k o ≡ newline_end newlines text k
by_newline newlines text k None never = refl
by_newline newlines text k (Some e) never = not_less_none (nat_lt k e) e (newline_end newlines text k) never

pub newline_alone : (t : Tree) (newlines : Bool) (text : List ℕ) (k : ℕ) → not_empty t text k ≡ None → separator_end t newlines text k ≡ newline_end newlines text k
newline_alone t newlines text k never = by_newline newlines text k (longest t text k) never

less_some : (b : Bool) (e f : ℕ) (o : Option ℕ) → (if b then Some e else None) ≡ Some f → (if b then Some e else o) ≡ Some f
less_some true e f o is = is
less_some false e f o is = absurd (some_is_none (sym is))

by_match : (newlines : Bool) (text : List ℕ) (k e : ℕ) (o : Option ℕ) → unless_empty k o ≡ Some e → end_or_newline newlines text k o ≡ Some e
by_match newlines text k e None is = absurd (some_is_none (sym is))
by_match newlines text k e (Some f) is = less_some (nat_lt k f) f e (newline_end newlines text k) is

pub match_there : (t : Tree) (newlines : Bool) (text : List ℕ) (k e : ℕ) → not_empty t text k ≡ Some e → separator_end t newlines text k ≡ Some e
match_there t newlines text k e is = by_match newlines text k e (longest t text k) is

agrees_before : (t : Tree) (newlines : Bool) (text : List ℕ) (from s e : ℕ) → IsFirstAt (not_empty t text) from (length text) s e → Agrees (separator_end t newlines text) newlines text from s
agrees_before t newlines text from s e f = λ k low high. newline_alone t newlines text k (f.before k low high)

agrees_to_end : (t : Tree) (newlines : Bool) (text : List ℕ) (from : ℕ) → IsFirstBy (not_empty t text) from (length text) None → Agrees (separator_end t newlines text) newlines text from (length text)
agrees_to_end t newlines text from f = λ k low high. newline_alone t newlines text k (f k low high)

first_of_line : (t : Tree) (newlines : Bool) (text : List ℕ) (from line s e : ℕ) → line ≤ s → IsFirstAt (not_empty t text) from (length text) s e → ((k : ℕ) → line ≤ k → k < s → separator_end t newlines text k ≡ None) → IsFirstAt (separator_end t newlines text) line (length text) s e
first_of_line t newlines text from line s e low f none = record { low = low; high = f.high; is = match_there t newlines text s e f.is; before = none }

-- Pieces between the matches of an expression: those so far, and those from a place on.
pub record IsCut (t : Tree) (newlines : Bool) (text : List ℕ) (spans : List Span) (from : ℕ) : Type 0 where
  pub left : IsOpen (separator_end t newlines text) text spans from (pieces (Expression t) newlines text)

pub none_cut : (t : Tree) (newlines : Bool) (text : List ℕ) (spans : List Span) → spans ≡ [] → IsCut t newlines text spans 0
none_cut t newlines text spans e = subst (λ (xs : List Span). IsCut t newlines text xs 0) (sym e)
    (record { left = record { count = length text; enough = omega arith; pieces = begun text (pieces (Expression t) newlines text) } })

-- lines up to a place were added, and no newline is left before it
pub record LinesTo (newlines : Bool) (text : List ℕ) (from to line : ℕ) (old new : List Span) : Type 0 where
  pub within : (from ≤ line) × (line ≤ to)
  pub rest : (end : End) → Agrees end newlines text from to → (k : ℕ) → line ≤ k → k < to → end k ≡ None
  pub lines : (end : End) (total : List (List ℕ)) → Agrees end newlines text from to → IsOpen end text old from total → IsOpen end text new line total

-- a piece was added
abbrev pub Pushes : List ℕ → List Span → List Span → ℕ → ℕ → Type 0
Pushes text old new start end = (rest total : List (List ℕ)) → start ≤ end → end ≤ length text → IsSoFar text old (slice_range text start end ∷ rest) total → IsSoFar text new rest total

-- where a match lies
abbrev pub MatchFrom : ℕ → ℕ → Option (ℕ × ℕ) → Type 0
MatchFrom from size found = IfSome found (λ m. (from ≤ m.0) × (m.0 + 1 ≤ m.1) × (m.1 ≤ size))

pub match_inside : (from size s e : ℕ) (found : Option (ℕ × ℕ)) → found ≡ Some (s, e) → MatchFrom from size found → (from ≤ s) × (s + 1 ≤ e) × (e ≤ size)
match_inside from size s e found is inside = subst (MatchFrom from size) is inside

-- the pieces up to a match, and those behind it
pub cut_behind : (t : Tree) (newlines : Bool) (text : List ℕ) (from line s e : ℕ) (old lined new : List Span) (found : Option (ℕ × ℕ)) → found ≡ Some (s, e) → MatchFrom from (length text) found →
    IsFirstBy (not_empty t text) from (length text) found → LinesTo newlines text from s line old lined → Pushes text lined new line s → IsCut t newlines text old from → IsCut t newlines text new e
cut_behind t newlines text from line s e old lined new found is within first lines pushes cut =
    let end = separator_end t newlines text in
    let inside = match_inside from (length text) s e found is within in
    let f = subst (IsFirstBy (not_empty t text) from (length text)) is first in
    let agrees = agrees_before t newlines text from s e f in
    let at = first_of_line t newlines text from line s e lines.within.1 f (lines.rest end agrees) in
    let r = ready end text lined line s e (pieces (Expression t) newlines text) (omega (arith, inside.1)) at (lines.lines end (pieces (Expression t) newlines text) agrees cut.left) in
    record {
      left = opened end text new e (pieces (Expression t) newlines text) r.count r.enough
          (pushes (between text e (separators end (length text) r.count e)) (pieces (Expression t) newlines text) lines.within.1 (omega (arith, inside.1, inside.2)) r.pieces);
    }

-- the last piece
pub all_cut : (t : Tree) (newlines : Bool) (text : List ℕ) (from line : ℕ) (old lined new : List Span) (found : Option (ℕ × ℕ)) → found ≡ None →
    IsFirstBy (not_empty t text) from (length text) found → LinesTo newlines text from (length text) line old lined → Pushes text lined new line (length text) → IsCut t newlines text old from →
    AreSpans text new (pieces (Expression t) newlines text)
all_cut t newlines text from line old lined new found is first lines pushes cut =
    let end = separator_end t newlines text in
    let agrees = agrees_to_end t newlines text from (subst (IsFirstBy (not_empty t text) from (length text)) is first) in
    let last = closed end text lined line (pieces (Expression t) newlines text) lines.within.1 (lines.rest end agrees) (lines.lines end (pieces (Expression t) newlines text) agrees cut.left) in
    all_parts text new (pieces (Expression t) newlines text) (pushes [] (pieces (Expression t) newlines text) lines.within.1 (le_refl (length text)) last)
