use Rattle.ere_match.specs.Ends.{AreDeadEnds}
use Rattle.test_parts.proofs.eres.matches.all.Given as goal

abbrev pub invariant-loop-turn : goal.invariant-loop-turn
invariant-loop-turn l = AreDeadEnds l.auto' l.text l.ends
