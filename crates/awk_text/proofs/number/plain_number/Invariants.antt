use Rattle.std.proofs.Common.{◌≡◌, ◌^◌, ◌≤◌, drop}
use Rattle.awk_text.specs.Number.{value_after}
use Rattle.awk_text.specs.Reading.{AreDigits}
use Rattle.awk_text.proofs.number.plain_number.Given as goal

abbrev pub invariant-loop-byte : goal.invariant-loop-byte
invariant-loop-byte l = record {
  small : l.number ≤ 2 ^ 53;
  value : value_after l.number (drop l.byte-index l.text) ≡ value_after 0 l.text;
  digits : AreDigits (drop l.byte-index l.text) → AreDigits l.text;
}
