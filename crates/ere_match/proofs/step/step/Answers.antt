use Rattle.ere_match.proofs.Steps.{stepped_on}
use Rattle.ere_match.proofs.step.step.Goals as goal

pub loop-id-preserved : goal.loop-id-preserved
loop-id-preserved c = stepped_on c.args.nodes.now c.args.byte c.loop-id.id c.args.set.now c.loop-id.next c.advance.new.next c.loop-id.invariant c.advance.ensures
