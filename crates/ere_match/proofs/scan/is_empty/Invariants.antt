use Rattle.std.proofs.Common.{◌≡◌, ℕ, ◌<◌, get_or, None}
use Rattle.ere_match.proofs.scan.is_empty.Given as goal

abbrev pub invariant-loop-thread : goal.invariant-loop-thread
invariant-loop-thread l = (k : ℕ) → k < l.thread-index → get_or l.set k None ≡ None
