use Rattle.script_check.specs.Uncut.{line_start}
use Rattle.script_check.proofs.OnLines.{started}
use Rattle.script_check.proofs.uncut.line_start.Goals as goal

pub returns-then-left-le1-clause-value : goal.returns-then-left-le1-clause-value
returns-then-left-le1-clause-value c = started c.loop-i.left c.loop-i.i (line_start c.args.line c.args.script.now) c.args.script.now c.loop-i-test.true c.if-left-le1.true c.loop-i.invariant
