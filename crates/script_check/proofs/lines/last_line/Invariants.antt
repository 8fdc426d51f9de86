use Rattle.std.proofs.Common.{◌≡◌, ◌≤◌, drop, take}
use Rattle.script_check.specs.Page.{last_line, last_line_from}
use Rattle.script_check.proofs.lines.last_line.Given as goal

abbrev pub invariant-loop-i : goal.invariant-loop-i
invariant-loop-i l = record { within : l.start ≤ l.i; so_far : last_line_from (drop l.start (take l.i l.before)) (drop l.i l.before) ≡ last_line l.before }
