use Rattle.std.proofs.Common.{◌≡◌, ◌≤◌, drop, length}
use Rattle.std.specs.Fmt.{digits}
use Rattle.host_bytes.proofs.Numerals.{left_digits}
use Rattle.host_bytes.proofs.digits.write_digits.Given as goal

abbrev pub invariant-loop-at : goal.invariant-loop-at
invariant-loop-at l = record {
  within : l.at ≤ 64;
  room : length l.room ≡ 64;
  left : left_digits l.at l.base l.upper l.rest (drop l.at l.room) ≡ digits l.base l.upper l.number;
}

abbrev pub decreases-loop-at : goal.decreases-loop-at
decreases-loop-at l = l.at
