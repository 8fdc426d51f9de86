use Rattle.std.proofs.Common.{◌≡◌, drop}
use Rattle.script_check.specs.Troubles.{first_from, defines}
use Rattle.script_check.specs.View.{view_uses}
use Rattle.script_check.proofs.troubles.definition.Given as goal

abbrev pub invariant-loop-i : goal.invariant-loop-i
invariant-loop-i l = first_from (defines l.name) l.i (view_uses (drop l.i l.uses)) ≡ first_from (defines l.name) 0 (view_uses l.uses)
