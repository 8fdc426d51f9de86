use Rattle.ere_match.specs.Threads.{IsStepped}
use Rattle.ere_match.proofs.step.step.Given as goal

abbrev pub invariant-loop-id : goal.invariant-loop-id
invariant-loop-id l = IsStepped l.nodes l.byte l.id l.set l.next
