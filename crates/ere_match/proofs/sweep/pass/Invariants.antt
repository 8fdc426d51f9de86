use Rattle.std.proofs.Common.{◌≡◌, ℕ, ◌<◌, ◌-◌, false, length}
use Rattle.ere_match.specs.Threads.{Holds, IsPassed}
use Rattle.ere_match.proofs.Sweeps.{IsSweptTo}
use Rattle.ere_match.proofs.sweep.pass.Given as goal

abbrev pub invariant-loop-done : goal.invariant-loop-done
invariant-loop-done l = record {
  passed : (bound : ℕ) → ((k s : ℕ) → Holds l.fn.set k s → s < bound) → IsPassed l.nodes l.first false bound (length l.nodes - l.done) l.fn.set l.set l.added;
  swept : (bound : ℕ) → ((k s : ℕ) → Holds l.fn.set k s → s < bound) → l.added ≡ false → IsSweptTo l.nodes l.byte (length l.nodes - l.done) l.set l.next;
  next_len : length l.next ≡ length l.nodes;
}
