use Rattle.std.proofs.Common.{◌≡◌, ◌++◌, drop, take}
use Rattle.script_check.specs.Page.{first_line}
use Rattle.script_check.proofs.lines.first_line.Given as goal

abbrev pub invariant-loop-i : goal.invariant-loop-i
invariant-loop-i l = take l.i l.after ++ first_line (drop l.i l.after) ≡ first_line l.after
