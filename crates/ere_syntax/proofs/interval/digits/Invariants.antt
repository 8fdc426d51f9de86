use Rattle.std.proofs.Common.{◌≡◌, ◌≤◌, drop}
use Rattle.ere_syntax.specs.Readers.{digits_at}
use Rattle.ere_syntax.specs.Counts.{saturated}
use Rattle.ere_syntax.proofs.interval.digits.Given as goal

abbrev pub invariant-loop-place : goal.invariant-loop-place
invariant-loop-place l = record {
  small : l.number ≤ 256;
  number : saturated l.number (digits_at (drop l.place l.text)).0 ≡ saturated 0 (digits_at l.text).0;
  rest : (digits_at (drop l.place l.text)).1 ≡ (digits_at l.text).1;
}
