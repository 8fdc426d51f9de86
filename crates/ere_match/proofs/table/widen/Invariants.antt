use Rattle.std.proofs.Common.{◌+◌, ◌-◌, length}
use Rattle.ere_match.specs.Rows.{IsSame}
use Rattle.ere_match.proofs.table.widen.Given as goal

abbrev pub invariant-loop-starts : goal.invariant-loop-starts
invariant-loop-starts l = IsSame l.fn.starts.items l.starts.items

abbrev pub decreases-loop-starts : goal.decreases-loop-starts
decreases-loop-starts l = l.count + 1 - length l.starts.items
