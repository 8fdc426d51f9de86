use Rattle.std.proofs.Common.{◌≡◌, ◌++◌, drop}
use Rattle.run_report.specs.SubjectTexts.{quoted_after}
use Rattle.run_report.proofs.subject.push_quoted.Given as goal

abbrev pub invariant-loop-byte : goal.invariant-loop-byte
invariant-loop-byte l = l.text.items ++ quoted_after l.before (drop l.byte-index l.bytes) ≡ l.initial.text.items ++ quoted_after 0 l.bytes
