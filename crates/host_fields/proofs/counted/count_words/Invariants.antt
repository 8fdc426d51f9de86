use Rattle.std.proofs.Common.{◌≡◌, ◌+◌, ◌≤◌, drop, false}
use Rattle.host_fields.proofs.Counting.{words}
use Rattle.host_fields.proofs.counted.count_words.Given as goal

abbrev pub invariant-loop-byte : goal.invariant-loop-byte
invariant-loop-byte l = record {
  few : l.count ≤ l.byte-index;
  words : l.count + words l.is_inside (drop l.byte-index l.text) ≡ words false l.text;
}
