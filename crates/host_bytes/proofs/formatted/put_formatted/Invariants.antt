use Rattle.std.proofs.Common.{◌≤◌, length}
use Rattle.host_bytes.proofs.Steps.{GoesOn}
use Rattle.host_bytes.proofs.formatted.put_formatted.Given as goal

abbrev pub invariant-loop-at : goal.invariant-loop-at
invariant-loop-at l = record {
  short : length l.rest ≤ length l.format;
  goes_on : GoesOn l.out.stop l.format l.values l.out.bytes.items l.rest l.left;
}

abbrev pub decreases-loop-at : goal.decreases-loop-at
decreases-loop-at l = length l.rest
