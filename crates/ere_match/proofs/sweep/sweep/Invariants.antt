use Rattle.std.proofs.Common.{◌≡◌, ◌+◌, cond, length, false}
use Rattle.ere_match.specs.Threads.{AreStarts, IsClosedFrom, IsFrom, IsStepped, IsWithin, cost}
use Rattle.ere_match.proofs.sweep.sweep.Given as goal

abbrev pub invariant-loop-added : goal.invariant-loop-added
invariant-loop-added l = record {
  len : length l.set ≡ length l.nodes;
  next_len : length l.next ≡ length l.nodes;
  within : IsWithin l.fn.set l.set;
  from : IsFrom l.nodes l.first false l.fn.set l.set;
  starts : AreStarts l.fn.set l.set;
  closed : l.added ≡ false → IsClosedFrom l.nodes l.first false 0 l.set;
  stepped : l.added ≡ false → IsStepped l.nodes l.byte (length l.nodes) l.set l.next;
}

abbrev pub decreases-loop-added : goal.decreases-loop-added
decreases-loop-added l = cost (l.latest + 1) l.set + cond l.added 1 0
