use Rattle.std.proofs.Common.{◌≡◌, ◌+◌, ◌⊎◌, ◌<◌, ◌∙◌, ℕ, Bool, List, [], ◌∷◌, None, Some, ap, arith, drop, false, le_refl, length, slice_range, subst, sym}
use Rattle.std.specs.Prelude.{slice_get}
use Rattle.memchr.specs.Find.{IsFirstByte}
use Rattle.sem_primitives.specs.Fields.{parted}
use Rattle.host_format.specs.Marks.{kept}
use Rattle.host_format.specs.declared.sep.Plain.{Plain}
use Rattle.host_bytes.proofs.Rests.{rest_of}
use Rattle.host_format.proofs.Pieces.{kept_none, last_piece, mark_inside, pieces_at}
use Rattle.host_fields.specs.Ends.{is_end, skips_empty}
use Rattle.host_fields.proofs.Finding.{kept_field, kept_gap, none_later, piece_here, piece_later}
use Rattle.host_fields.proofs.found.part_in.Goals as goal
use Rattle.host_fields.proofs.found.part_in.Goals.{then-is_field+else-left-eq0, else-is_field, else-left-eq0-2-via-then-left-eq0-2+else-is_field-2, else-left-eq0-2-via-else-left-eq0-2}

-- the fields from a place on
abbrev left_from : Plain → Bool → List ℕ → ℕ → List (List ℕ)
left_from by newlines text from = kept (skips_empty by) (parted (is_end by newlines) (drop from text))

module _ (by : Plain) (newlines : Bool) (text : List ℕ) (from at : ℕ) (found : IsFirstByte (is_end by newlines) (slice_range text from (length text)) (Some at)) where
  end : IsFirstByte (is_end by newlines) (drop from text) (Some at)
  end = subst (λ (xs : List ℕ). IsFirstByte (is_end by newlines) xs (Some at)) (rest_of text from) found

  inside : from + at < length text
  inside = mark_inside (is_end by newlines) text from at end

  first : left_from by newlines text from ≡ kept (skips_empty by) (slice_range text from (from + at) ∷ parted (is_end by newlines) (drop (from + at + 1) text))
  first = ap (kept (skips_empty by)) (pieces_at (is_end by newlines) text from at end)

  field_first : (from < from + at) ⊎ (skips_empty by ≡ false) → left_from by newlines text from ≡ slice_range text from (from + at) ∷ left_from by newlines text (from + at + 1)
  field_first some = first ∙ kept_field (skips_empty by) text from (from + at) _ (omega (arith, inside)) some

last : (by : Plain) (newlines : Bool) (text : List ℕ) (from : ℕ) → IsFirstByte (is_end by newlines) (slice_range text from (length text)) None → left_from by newlines text from ≡ kept (skips_empty by) (slice_range text from (length text) ∷ [])
last by newlines text from none =
    ap (kept (skips_empty by)) (last_piece (is_end by newlines) text from (subst (λ (xs : List ℕ). IsFirstByte (is_end by newlines) xs None) (rest_of text from) none))

pub returns-then-left-eq0-clause-text : goal.returns-then-left-eq0-clause-text
returns-then-left-eq0-clause-text c =
    let some = c.is_field.ensures.full c.if-is_field.true in
    piece_here _ c.loop-at.left _ _ _ (field_first c.args.by c.args.newlines c.args.text.now c.loop-at.from c.in-Some.at c.in-Some.ensures some) c.if-left-eq0.true c.loop-at.invariant.same

pub loop-at-preserved : goal.loop-at-preserved
loop-at-preserved c =
    let by = c.args.by in
    let newlines = c.args.newlines in
    let text = c.args.text.now in
    let from = c.loop-at.from in
    let at = c.in-Some.at in
    let found = c.in-Some.ensures in
    let rest = left_from by newlines text (from + at + 1) in
    let there = slice_get (kept (skips_empty by) (parted (is_end by newlines) text)) c.args.number in
    let same : slice_get rest c.if-is_field.left ≡ there = elim c.if-is_field.branch [
      | then-is_field+else-left-eq0 w ↦ ap (slice_get rest) w.left-is
          ∙ piece_later _ c.loop-at.left _ rest there (field_first by newlines text from at found (c.is_field.ensures.full w.if-is_field.true)) w.if-left-eq0.false c.loop-at.invariant.same
      | else-is_field w ↦ ap (slice_get rest) w.left-is
          ∙ ap (λ ps. slice_get ps c.loop-at.left) (sym (first by newlines text from at found ∙ kept_gap (skips_empty by) text from (from + at) _ (omega (arith, inside by newlines text from at found)) (c.is_field.ensures.empty w.if-is_field.false)))
          ∙ c.loop-at.invariant.same
    ] in
    record { inside = omega (arith, inside by newlines text from at found); same = same }

pub returns-then-is_field-2-clause-text : goal.returns-then-is_field-2-clause-text
returns-then-is_field-2-clause-text c =
    let by = c.args.by in
    let text = c.args.text.now in
    let some = c.is_field-then-left-eq0-2.ensures.full c.if-is_field-2.true in
    let is = last by c.args.newlines text c.loop-at.from c.in_default.ensures ∙ kept_field (skips_empty by) text c.loop-at.from (length text) [] (le_refl (length text)) some in
    piece_here _ c.loop-at.left _ _ _ is c.if-left-eq0-2.true c.loop-at.invariant.same

pub returns-clause-text : goal.returns-clause-text
returns-clause-text c =
    let by = c.args.by in
    let text = c.args.text.now in
    let from = c.loop-at.from in
    let left = c.loop-at.left in
    let all = last by c.args.newlines text from c.in_default.ensures in
    let past : slice_get (left_from by c.args.newlines text from) left ≡ None = elim c.else-left-eq0-2.branch [
      | else-left-eq0-2-via-then-left-eq0-2+else-is_field-2 w ↦
          ap (λ ps. slice_get ps left) (all ∙ kept_gap (skips_empty by) text from (length text) [] (le_refl (length text)) (w.is_field-then-left-eq0-2.ensures.empty w.if-is_field-2.false) ∙ kept_none (skips_empty by))
      | else-left-eq0-2-via-else-left-eq0-2 w ↦ ap (λ ps. slice_get ps left) all ∙ none_later (skips_empty by) (slice_range text from (length text)) left w.if-left-eq0-2.false
    ] in
    sym past ∙ c.loop-at.invariant.same
