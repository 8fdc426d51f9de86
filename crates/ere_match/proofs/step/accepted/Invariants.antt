use Rattle.ere_match.specs.Threads.{IsAccepted}
use Rattle.ere_match.proofs.step.accepted.Given as goal

abbrev pub invariant-loop-id : goal.invariant-loop-id
invariant-loop-id l = IsAccepted l.nodes l.set l.id l.least
