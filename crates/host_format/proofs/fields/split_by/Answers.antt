use Rattle.std.proofs.Common.{◌+◌, ℕ, List, [], ap, arith, drop, length, le_refl, subst, sym, take, Some, None}
use Rattle.memchr.specs.Find.{IsFirstByte}
use Rattle.sem_primitives.specs.Fields.{parted}
use Rattle.host_format.specs.Marks.{is_mark, kept, pieces_by, skips_empty}
use Rattle.host_format.specs.Spans.{AreSpans}
use Rattle.host_format.specs.declared.span.Span.{Span}
use Rattle.host_bytes.proofs.Rests.{rest_of}
use Rattle.host_format.proofs.Pieces.{all_parts, kept_none, last_piece, mark_inside, pieces_at, with_rest}
use Rattle.host_format.proofs.fields.split_by.Goals as goal

pub loop-at-preserved : goal.loop-at-preserved
loop-at-preserved c =
    let i = c.loop-at.invariant in
    let text = c.args.text.now in
    let from = c.loop-at.from in
    let at = c.in-Some.at in
    let mark = subst (λ (xs : List ℕ). IsFirstByte (is_mark c.args.marks) xs (Some at)) (rest_of text from) c.in-Some.ensures in
    let inside = mark_inside (is_mark c.args.marks) text from at mark in
    record {
      inside = omega (arith, inside);
      within = c.in_ok-count.ensures.within;
      pieces = c.in_ok-count.ensures.parts text (parted (is_mark c.args.marks) (drop (from + at + 1) text)) (pieces_by c.args.marks text) (omega arith) (omega (arith, inside))
          (with_rest text (take c.loop-at.count c.loop-at.spans.items) _ _ (pieces_by c.args.marks text) (ap (λ ps. kept (skips_empty c.args.marks) ps) (pieces_at (is_mark c.args.marks) text from at mark)) i.pieces);
    }

pub returns : goal.returns
returns c =
    let i = c.loop-at.invariant in
    let text = c.args.text.now in
    let total = pieces_by c.args.marks text in
    let none = subst (λ (xs : List ℕ). IsFirstByte (is_mark c.args.marks) xs None) (rest_of text c.loop-at.from) c.in_default.ensures in
    let parts = c.in_ok-count-2.ensures.parts text [] total i.inside (le_refl (length text))
    (with_rest text (take c.loop-at.count c.loop-at.spans.items) _ _ total (ap (λ ps. kept (skips_empty c.args.marks) ps) (last_piece (is_mark c.args.marks) text c.loop-at.from none)) i.pieces)
    in
    let put = take c.in_ok-count-2.count c.put_piece-2.new.spans.items in
    subst (λ (spans : List Span). AreSpans text spans total) (sym c.truncate.ensures.items)
    (all_parts text put total (with_rest text put _ _ total (kept_none (skips_empty c.args.marks)) parts))
