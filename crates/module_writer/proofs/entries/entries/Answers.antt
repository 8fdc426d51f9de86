use Rattle.module_writer.proofs.Loops.{begun, one_more, all_done}
use Rattle.module_writer.proofs.entries.entries.Goals as goal

pub loop-one-init : goal.loop-one-init
loop-one-init g c = λ end k. begun g.K.Kind.writes g.K.Kind.form c.args.all.now c.count.ensures k

pub loop-one-preserved : goal.loop-one-preserved
loop-one-preserved g c = λ end k. c.loop-one.invariant end (one_more g.K.Kind.writes g.K.Kind.form c.args.all.now c.loop-one.one-index c.one-item.result c.loop-one-test.true c.one-item.is c.write.ensures k)

pub returns : goal.returns
returns g c = c.loop-one.invariant c.loop-one.out (all_done g.K.Kind.writes g.K.Kind.form c.args.all.now c.loop-one.out c.loop-one.one-index c.loop-one-test.false)
