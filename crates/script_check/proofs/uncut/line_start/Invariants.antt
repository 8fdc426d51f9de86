use Rattle.std.proofs.Common.{◌≡◌, ◌+◌, drop}
use Rattle.script_check.specs.Uncut.{line_start}
use Rattle.script_check.proofs.uncut.line_start.Given as goal

abbrev pub invariant-loop-i : goal.invariant-loop-i
invariant-loop-i l = l.i + line_start l.left (drop l.i l.script) ≡ line_start l.line l.script
