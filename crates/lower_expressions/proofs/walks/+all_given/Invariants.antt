use Rattle.std.proofs.Common.{length}
use Rattle.lower_expressions.proofs.walks.+all_given.Given as goal

abbrev pub decreases-all_given : goal.decreases-all_given
decreases-all_given l = length l.operands.now
