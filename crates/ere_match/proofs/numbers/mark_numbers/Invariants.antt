use Rattle.std.proofs.Common.{◌≡◌, ℕ, ◌<◌, get_or}
use Rattle.ere_match.specs.Threads.{Holds}
use Rattle.ere_match.proofs.numbers.mark_numbers.Given as goal

abbrev pub invariant-loop-thread : goal.invariant-loop-thread
invariant-loop-thread l = (id s : ℕ) → id < l.thread-index → Holds l.set id s → get_or l.used s 0 ≡ 1
