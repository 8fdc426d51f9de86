use Rattle.std.proofs.Common.{length}
use Rattle.lower_expressions.proofs.function_calls.+all_pushed.Given as goal

abbrev pub decreases-all_pushed : goal.decreases-all_pushed
decreases-all_pushed l = length l.operands.now
