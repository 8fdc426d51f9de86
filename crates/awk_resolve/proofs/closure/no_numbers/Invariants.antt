use Rattle.awk_resolve.proofs.Waiting.{NoNumbers}
use Rattle.awk_resolve.proofs.closure.no_numbers.Given as goal

abbrev pub invariant-loop-done : goal.invariant-loop-done
invariant-loop-done l = NoNumbers l.lists l._done
