use Rattle.awk_tokens.proofs.Fronts.{after_escaped, allowed, other, after_plain, open_line, at_quote, at_line, at_end}
use Rattle.awk_tokens.proofs.front.closing.Goals as goal
use Rattle.awk_tokens.proofs.front.closing.Goals.{then-escaped+else-b-eq10, else-b-eq10-via-then-b-eq10+else-not-newlines, else-b-eq10-via-else-b-eq10, else-escaped+else-b-quote+else-b-eq10-2}

pub returns-then-not-newlines : goal.returns-then-not-newlines
returns-then-not-newlines c = open_line c.args.newlines c.args.quote c.loop-i.escaped c.loop-i.i c.args.bytes.now _ c.loop-i-test.true c.if-escaped.true c.if-b-eq10.true c.if-not-newlines.true c.loop-i.invariant

pub returns-then-b-quote : goal.returns-then-b-quote
returns-then-b-quote c = at_quote c.args.newlines c.args.quote c.loop-i.escaped c.loop-i.i c.args.bytes.now _ c.loop-i-test.true c.if-escaped.false c.if-b-quote.true c.loop-i.invariant

pub returns-then-b-eq10-2 : goal.returns-then-b-eq10-2
returns-then-b-eq10-2 c = at_line c.args.newlines c.args.quote c.loop-i.escaped c.loop-i.i c.args.bytes.now _ c.loop-i-test.true c.if-escaped.false c.if-b-quote.false c.if-b-eq10-2.true c.loop-i.invariant

pub loop-i-preserved : goal.loop-i-preserved
loop-i-preserved c = elim c.if-escaped.branch [
  | then-escaped+else-b-eq10 w ↦ elim w.else-b-eq10.branch [
    | else-b-eq10-via-then-b-eq10+else-not-newlines v ↦ after_escaped c.args.newlines c.args.quote c.loop-i.escaped c.if-escaped.escaped c.loop-i.i c.args.bytes.now _ c.loop-i-test.true w.if-escaped.true w.escaped-is (allowed _ _ v.if-not-newlines.false) c.loop-i.invariant
    | else-b-eq10-via-else-b-eq10 v ↦ after_escaped c.args.newlines c.args.quote c.loop-i.escaped c.if-escaped.escaped c.loop-i.i c.args.bytes.now _ c.loop-i-test.true w.if-escaped.true w.escaped-is (other _ _ v.if-b-eq10.false) c.loop-i.invariant
  ]
  | else-escaped+else-b-quote+else-b-eq10-2 w ↦ after_plain c.args.newlines c.args.quote c.loop-i.escaped c.if-escaped.escaped c.loop-i.i c.args.bytes.now _ c.loop-i-test.true w.if-escaped.false w.escaped-is w.if-b-quote.false w.if-b-eq10-2.false c.loop-i.invariant
]

pub returns : goal.returns
returns c = at_end c.args.newlines c.args.quote c.loop-i.escaped c.loop-i.i c.args.bytes.now _ c.loop-i-test.false c.loop-i.invariant
