use Rattle.std.proofs.Common.{◌≡◌, [], drop, take}
use Rattle.awk_grammar.specs.ViewStmt.{view_script}
use Rattle.script_check.specs.Troubles.{taken_from}
use Rattle.script_check.specs.View.{view_uses}
use Rattle.script_check.proofs.troubles.first_taken.Given as goal

abbrev pub invariant-loop-i : goal.invariant-loop-i
invariant-loop-i l = taken_from (view_script l.script) l.name (view_uses (take l.i l.uses)) l.i (view_uses (drop l.i l.uses)) ≡ taken_from (view_script l.script) l.name [] 0 (view_uses l.uses)
