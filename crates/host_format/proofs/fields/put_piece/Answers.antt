use Rattle.std.proofs.Common.{◌≡◌, ◌⊎◌, inl, inr, ◌<◌, false, length, slice_range, take, arith, rules}
use Rattle.host_format.specs.Marks.{kept, skips_empty}
use Rattle.host_format.proofs.Pieces.{kept_full, length_of_range, with_rest}
use Rattle.host_format.proofs.fields.put_piece.Goals as goal
use Rattle.host_format.proofs.fields.put_piece.Goals.{then-start-end-via-then-start-end, then-start-end-via-else-start-end+then-not-skips_empty}

pub returns-then-start-end-clause-parts : goal.returns-then-start-end-clause-parts
returns-then-start-end-clause-parts c = λ text rest total a b s.
    let some : (0 < length (slice_range text c.args.start c.args.end)) ⊎ (skips_empty c.args.marks ≡ false) = elim c.then-start-end.branch [
      | then-start-end-via-then-start-end w ↦ inl (let less = w.if-start-end.true in omega (arith, less, length_of_range text c.args.start c.args.end b))
      | then-start-end-via-else-start-end+then-not-skips_empty w ↦ inr (search rules)
    ] in
    c.in_ok-put.ensures.parts text (kept (skips_empty c.args.marks) rest) total a b
    (with_rest text (take c.args.at c.args.spans.now.items) _ _ total (kept_full (skips_empty c.args.marks) (slice_range text c.args.start c.args.end) rest some) s)
