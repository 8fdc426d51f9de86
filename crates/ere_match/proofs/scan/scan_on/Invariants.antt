use Rattle.std.proofs.Common.{◌≡◌, ◌≤◌, ℕ, length}
use Rattle.ere_match.specs.Threads.{AreThreads, Holds, IsBest}
use Rattle.ere_match.proofs.scan.scan_on.Given as goal

abbrev pub invariant-loop-place : goal.invariant-loop-place
invariant-loop-place l = record {
  led : (from : ℕ) → from ≤ l.at → AreThreads l.nodes l.text l.entry from l.at l.at l.fn.set l.fn.best → IsBest l.nodes l.text l.entry from l.at l.fn.best → AreThreads l.nodes l.text l.entry from l.place l.place l.set l.best × IsBest l.nodes l.text l.entry from l.place l.best;
  starts : (k s : ℕ) → Holds l.set k s → s ≤ l.place;
  set_len : length l.set ≡ length l.nodes;
  next_len : length l.next ≡ length l.nodes;
}
