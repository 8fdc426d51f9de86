use Rattle.std.proofs.Common.{◌≡◌, ◌++◌, drop}
use Rattle.script_check.specs.Page.{blanks}
use Rattle.script_check.proofs.page.push_blanks.Given as goal

abbrev pub invariant-loop-byte : goal.invariant-loop-byte
invariant-loop-byte l = l.out.items ++ blanks (drop l.byte-index l.text) ≡ l.initial.out.items ++ blanks l.text
