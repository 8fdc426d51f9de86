use Rattle.std.proofs.Common.{◌+◌, ◌<◌, ◌^◌, arith, ◌∙◌}
use Rattle.std.proofs.lemmas.Int.{to_z-of_z}
use Rattle.std.specs.Int.{w32}
use Rattle.host_format.specs.Spans.{span_text}
use Rattle.host_format.specs.declared.span.Span.{Span}
use Rattle.host_tables.proofs.Numbered.{free_put, put_more, there_put}
use Rattle.host_tables.proofs.filling.fill.Goals as goal

pub put_text-requires : goal.put_text-requires
put_text-requires c = there_put _ _ _ _ c.loop-at.invariant

pub loop-at-preserved : goal.loop-at-preserved
loop-at-preserved c =
    let none : Span = record { start = 0; end = 0 } in
    let small : c.loop-at.at + 1 < 2 ^ 64 = omega arith in
    put_more (span_text c.args.text.now) c.args.arrays.now c.loop-at.arrays c.put_text.new.arrays _ c.args.spans.now c.loop-at.at none c.in_ok-piece.piece c.loop-at.invariant c.loop-at-test.true small c.in_ok-piece.ensures c.in_ok-put_text.ensures.put

pub returns-in_err-piece-clause-reserved : goal.returns-in_err-piece-clause-reserved
returns-in_err-piece-clause-reserved c free = free_put _ _ _ _ _ (to_z-of_z w32 _ c.ranges.array) c.requires.there free c.loop-at.invariant

pub returns-in_err-put_text-clause-reserved : goal.returns-in_err-put_text-clause-reserved
returns-in_err-put_text-clause-reserved c free = free_put _ _ _ _ _ (to_z-of_z w32 _ c.ranges.array) c.requires.there free (c.in_err-put_text.ensures.refused ∙ c.loop-at.invariant)

pub returns-clause-reserved : goal.returns-clause-reserved
returns-clause-reserved c free = free_put _ _ _ _ _ (to_z-of_z w32 _ c.ranges.array) c.requires.there free c.loop-at.invariant
