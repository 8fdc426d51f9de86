use Rattle.std.proofs.Common.{◌+◌, Bool, arith, length, subst}
use Rattle.memchr.specs.Find.{is_byte}
use Rattle.sem_primitives.specs.Fields.{between, separators}
use Rattle.host_format.proofs.Opens.{Agrees, in_range, line_at, no_lines, opened, ready}
use Rattle.host_format.proofs.fields.push_lines.Goals as goal

pub loop-at-preserved : goal.loop-at-preserved
loop-at-preserved c =
    let i = c.loop-at.invariant in
    let text = c.args.text.now in
    let line = c.loop-at.line in
    let at = c.in-Some.at in
    let less = in_range (is_byte 10) text line c.args.to at c.requires.to c.in-Some.ensures in
    record {
      low = (let low = i.low in omega (arith, low));
      high = omega (arith, less);
      lines = λ end total agrees o.
          let found = line_at end text c.args.from c.args.to line at c.requires.to i.low i.high agrees c.in-Some.ensures in
          let r = ready end text c.loop-at.spans.items line (line + at) (line + at + 1) total (omega arith) found.1 (i.lines end total agrees o) in
          opened end text c.push.new.spans.items (line + at + 1) total r.count r.enough
          (c.in_ok-push.ensures text (between text (line + at + 1) (separators end (length text) r.count (line + at + 1))) total (omega arith) (let inside = c.requires.to in omega (arith, less, inside)) r.pieces);
    }

pub returns-in_default-clause-rest : goal.returns-in_default-clause-rest
returns-in_default-clause-rest c = λ end agrees.
    let i = c.loop-at.invariant in
    no_lines end c.args.text.now c.args.from c.args.to c.loop-at.line c.requires.to i.low
    (subst (λ (b : Bool). Agrees end b c.args.text.now c.args.from c.args.to) c.if-newlines.true agrees) c.in_default.ensures
