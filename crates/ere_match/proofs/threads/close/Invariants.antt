use Rattle.std.proofs.Common.{◌≡◌, ◌+◌, cond, length, false}
use Rattle.ere_match.specs.Threads.{AreStarts, IsClosedFrom, IsFrom, IsWithin, cost}
use Rattle.ere_match.proofs.threads.close.Given as goal

abbrev pub invariant-loop-added : goal.invariant-loop-added
invariant-loop-added l = record {
  len : length l.set ≡ length l.nodes;
  within : IsWithin l.fn.set l.set;
  from : IsFrom l.nodes l.first l.last l.fn.set l.set;
  starts : AreStarts l.fn.set l.set;
  closed : l.added ≡ false → IsClosedFrom l.nodes l.first l.last 0 l.set;
}

abbrev pub decreases-loop-added : goal.decreases-loop-added
decreases-loop-added l = cost (l.latest + 1) l.set + cond l.added 1 0
