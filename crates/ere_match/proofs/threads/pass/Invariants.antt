use Rattle.std.proofs.Common.{ℕ, ◌<◌, ◌-◌, length}
use Rattle.ere_match.specs.Threads.{Holds, IsPassed}
use Rattle.ere_match.proofs.threads.pass.Given as goal

abbrev pub invariant-loop-done : goal.invariant-loop-done
invariant-loop-done l = (bound : ℕ) → ((k s : ℕ) → Holds l.fn.set k s → s < bound) → IsPassed l.nodes l.first l.last bound (length l.nodes - l.done) l.fn.set l.set l.added
