use Rattle.module_decoder.proofs.Steps.{all_runs, filled, one_run, too_many}
use Rattle.module_decoder.proofs.entry_kinds.locals.Goals as goal

pub loop-preserved : goal.loop-preserved
loop-preserved c =
    one_run c.loop.all c.index-count.result c.loop.counter c.loop.left c.loop-test.true c.if-n-left.false c.loop.invariant c.index-n.ensures c.val_type-t.ensures
    (filled c.push.result c.loop.all c.index-n.result c.val_type-t.result c.push.ensures.added c.made.ensures.span c.made.ensures.rest c.made.ensures.made)

pub returns-then-n-left : goal.returns-then-n-left
returns-then-n-left c =
    too_many c.loop.all c.index-count.result c.loop.counter c.loop.left c.loop-test.true c.if-n-left.true c.loop.invariant c.index-n.ensures c.fail.ensures.span c.fail.ensures.fault

pub returns : goal.returns
returns c = all_runs c.loop.all c.index-count.result c.loop.counter c.loop.left c.loop-test.false c.loop.invariant
