use Rattle.std.proofs.Common.{length}
use Rattle.lower_expressions.proofs.walks.+all_converted.Given as goal

abbrev pub decreases-all_converted : goal.decreases-all_converted
decreases-all_converted l = length l.operands.now
