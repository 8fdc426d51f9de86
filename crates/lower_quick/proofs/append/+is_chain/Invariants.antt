use Rattle.mid_program.specs.ViewCode.{view}
use Rattle.lower_quick.proofs.Shapes.{links}
use Rattle.lower_quick.proofs.append.+is_chain.Given as goal

abbrev pub decreases-is_chain : goal.decreases-is_chain
decreases-is_chain l = links (view l.code.now)
