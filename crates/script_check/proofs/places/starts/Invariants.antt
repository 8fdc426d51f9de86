use Rattle.script_check.proofs.StartsSoFar.{IsSoFar}
use Rattle.script_check.proofs.places.starts.Given as goal

abbrev pub invariant-loop-i : goal.invariant-loop-i
invariant-loop-i l = IsSoFar l.script l.tokens l.i l.end l.found.items
