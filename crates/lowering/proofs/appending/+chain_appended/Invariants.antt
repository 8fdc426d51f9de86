use Rattle.mid_program.specs.ViewCode.{view}
use Rattle.lower_quick.proofs.Shapes.{links}
use Rattle.lowering.proofs.appending.+chain_appended.Given as goal

abbrev pub decreases-chain_appended : goal.decreases-chain_appended
decreases-chain_appended l = links (view l.chain.now)
