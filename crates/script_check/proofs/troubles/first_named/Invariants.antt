use Rattle.std.proofs.Common.{◌≡◌, drop}
use Rattle.script_check.specs.Troubles.{first_from, names_variable}
use Rattle.script_check.specs.View.{view_uses}
use Rattle.script_check.proofs.troubles.first_named.Given as goal

abbrev pub invariant-loop-i : goal.invariant-loop-i
invariant-loop-i l = first_from (names_variable l.name) l.i (view_uses (drop l.i l.uses)) ≡ first_from (names_variable l.name) 0 (view_uses l.uses)
