use Rattle.std.proofs.Common.{◌≡◌, drop}
use Rattle.awk_grammar.specs.ViewStmt.{view_script}
use Rattle.script_check.specs.Troubles.{first_from, is_clash}
use Rattle.script_check.specs.View.{view_uses}
use Rattle.script_check.proofs.troubles.first_of_both.Given as goal

abbrev pub invariant-loop-i : goal.invariant-loop-i
invariant-loop-i l = first_from (is_clash (view_script l.script) l.name (view_uses l.uses)) l.i (view_uses (drop l.i l.uses)) ≡ first_from (is_clash (view_script l.script) l.name (view_uses l.uses)) 0 (view_uses l.uses)
