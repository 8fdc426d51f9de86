use Rattle.std.proofs.Common.{map}
use Rattle.module_decoder.proofs.Steps.{all_items, one_more}
use Rattle.module_decoder.proofs.entries.entries.Goals as goal

pub loop-preserved : goal.loop-preserved
loop-preserved g c = one_more g.K.Kind.reads g.K.Kind.form c.loop.all.items c.index-count.result c.loop.counter c.loop-test.true c.loop.invariant c.read-one.ensures c.push.ensures

pub returns : goal.returns
returns g c = all_items (g.K.Kind.reads c.args.reader.now.span) (map g.K.Kind.form c.loop.all.items) c.index-count.result c.loop.counter c.loop-test.false c.loop.invariant
