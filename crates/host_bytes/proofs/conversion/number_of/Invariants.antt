use Rattle.std.proofs.Common.{◌≡◌, ◌^◌, ◌≤◌, drop, min}
use Rattle.awk_text.specs.Number.{value_after}
use Rattle.host_bytes.proofs.conversion.number_of.Given as goal

abbrev pub invariant-loop-digit : goal.invariant-loop-digit
invariant-loop-digit l = record {
  small : l.number ≤ 2 ^ 16;
  rest : min (value_after l.number (drop l.digit-index l.digits)) (2 ^ 16) ≡ min (value_after 0 l.digits) (2 ^ 16);
}
