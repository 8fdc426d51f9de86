use Rattle.std.proofs.Common.{◌≡◌, drop}
use Rattle.awk_grammar.specs.ViewStmt.{view_script}
use Rattle.script_check.specs.Troubles.{first_from, uses_as}
use Rattle.script_check.specs.View.{view_use, view_uses}
use Rattle.script_check.proofs.troubles.first_as.Given as goal

abbrev pub invariant-loop-i : goal.invariant-loop-i
invariant-loop-i l = first_from (uses_as (view_script l.script) l.array (view_use l.used)) l.i (view_uses (drop l.i l.uses)) ≡ first_from (uses_as (view_script l.script) l.array (view_use l.used)) 0 (view_uses l.uses)
