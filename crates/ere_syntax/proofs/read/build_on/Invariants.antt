use Rattle.std.proofs.Common.{length}
use Rattle.ere_syntax.proofs.Wholes.{IsReading}
use Rattle.ere_syntax.proofs.read.build_on.Given as goal

abbrev pub invariant-loop-rest : goal.invariant-loop-rest
invariant-loop-rest l = IsReading l.fn.text l.stack.items l.frame l.rest

abbrev pub decreases-loop-rest : goal.decreases-loop-rest
decreases-loop-rest l = length l.rest
