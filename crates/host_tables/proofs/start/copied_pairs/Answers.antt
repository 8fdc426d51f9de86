use Rattle.host_tables.proofs.ElementsLemmas.{copied_more}
use Rattle.host_tables.proofs.start.copied_pairs.Goals as goal

pub loop-pair-preserved : goal.loop-pair-preserved
loop-pair-preserved c =
    copied_more c.loop-pair.copy.items c.push.new.self.items c.args.pairs.now c.loop-pair.pair-index c.pair-item.result c.pair-item.result c.in_ok-name.name c.in_ok-text.text c.loop-pair.invariant c.loop-pair-test.true c.pair-item.is
    c.in_ok-name.ensures c.in_ok-text.ensures c.in_ok-push.ensures.items
