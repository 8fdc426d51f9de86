use Rattle.std.proofs.Common.{◌≡◌, ◌++◌, drop}
use Rattle.run_report.specs.WhereTexts.{plain}
use Rattle.run_report.proofs.whereabouts.push_plain.Given as goal

abbrev pub invariant-loop-byte : goal.invariant-loop-byte
invariant-loop-byte l = l.text.items ++ plain (drop l.byte-index l.bytes) ≡ l.initial.text.items ++ plain l.bytes
