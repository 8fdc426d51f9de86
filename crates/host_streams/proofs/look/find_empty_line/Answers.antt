use Rattle.std.proofs.Common.{◌∙◌, ◌+◌, sym, arith, None}
use Rattle.host_streams.proofs.Cuts.{cut_here, cut_next}
use Rattle.host_streams.proofs.Finding.{rest_is, next_line, no_line}
use Rattle.host_streams.proofs.look.find_empty_line.Goals as goal

pub returns-then-is_empty_line : goal.returns-then-is_empty_line
returns-then-is_empty_line c =
    let line = next_line c.lines.at c.in-Some.k c.args.bytes.now c.lines.invariant.within c.lines.invariant.none (rw (rest_is c.lines.at c.args.bytes.now) at c.in-Some.ensures) in
    let begin = rw (rest_is (c.lines.at + c.in-Some.k) c.args.bytes.now) at c.is_empty_line.ensures in
    cut_here None c.args.bytes.now (c.lines.at + c.in-Some.k) line.0 (sym begin ∙ c.if-is_empty_line.true) line.1

pub lines-preserved : goal.lines-preserved
lines-preserved c =
    let line = next_line c.lines.at c.in-Some.k c.args.bytes.now c.lines.invariant.within c.lines.invariant.none (rw (rest_is c.lines.at c.args.bytes.now) at c.in-Some.ensures) in
    let begin = rw (rest_is (c.lines.at + c.in-Some.k) c.args.bytes.now) at c.is_empty_line.ensures in
    record {
      within = omega (arith, line.0);
      none = line.1 ∙ cut_next None c.args.bytes.now (c.lines.at + c.in-Some.k) line.0 (sym begin ∙ c.if-is_empty_line.false);
    }

pub returns-in-None : goal.returns-in-None
returns-in-None c = no_line c.lines.at c.args.bytes.now c.lines.invariant.within c.lines.invariant.none (rw (rest_is c.lines.at c.args.bytes.now) at c.in-None.ensures)
