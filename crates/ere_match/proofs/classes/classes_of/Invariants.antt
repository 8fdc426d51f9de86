use Rattle.ere_match.specs.Rows.{ClassesTo}
use Rattle.ere_match.proofs.classes.classes_of.Given as goal

abbrev pub invariant-loop-node : goal.invariant-loop-node
invariant-loop-node l = ClassesTo l.node-index l.nodes l.classes
