use Rattle.std.proofs.Common.{◌≤◌, ◌-◌, length, None}
use Rattle.host_streams.specs.Looks.{HasNoneBefore}
use Rattle.host_streams.proofs.look.find_empty_line.Given as goal

abbrev pub invariant-lines : goal.invariant-lines
invariant-lines l = record {
  within : l.at ≤ length l.bytes;
  none : HasNoneBefore None l.at l.bytes;
}

abbrev pub decreases-lines : goal.decreases-lines
decreases-lines l = length l.bytes - l.at
