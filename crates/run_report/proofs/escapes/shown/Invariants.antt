use Rattle.std.proofs.Common.{◌≡◌, ◌++◌, drop}
use Rattle.run_report.specs.Escapes.{shown, shown_after}
use Rattle.run_report.proofs.escapes.shown.Given as goal

abbrev pub invariant-loop-byte : goal.invariant-loop-byte
invariant-loop-byte l = l.bytes.items ++ shown_after l.before (drop l.byte-index l.text) ≡ shown l.text
