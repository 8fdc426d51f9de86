use Rattle.std.proofs.Common.{length}
use Rattle.awk_tokens.specs.State.{context_of, IsCutSoFar}
use Rattle.awk_tokens.proofs.cut.cut.Given as goal

abbrev pub invariant-loop-rest : goal.invariant-loop-rest
invariant-loop-rest l = IsCutSoFar l.tokens.items (context_of l.before) l.line l.rest l.fn.script

abbrev pub decreases-loop-rest : goal.decreases-loop-rest
decreases-loop-rest l = length l.rest
