use Rattle.std.proofs.Common.{◌≡◌, ◌++◌, drop}
use Rattle.run_report.specs.CountTexts.{count_text, listing}
use Rattle.run_report.proofs.counts.count_text.Given as goal

abbrev pub invariant-loop-byte : goal.invariant-loop-byte
invariant-loop-byte l = l.text.items ++ listing l.counts l.begins l.number (drop l.byte-index l.script) ≡ count_text l.script l.counts
