use Rattle.std.proofs.Common.{◌≡◌, drop}
use Rattle.script_check.specs.Troubles.{is_named}
use Rattle.script_check.specs.View.{view_use, view_uses}
use Rattle.script_check.proofs.troubles.is_named.Given as goal

abbrev pub invariant-loop-other : goal.invariant-loop-other
invariant-loop-other l = is_named (view_uses (drop l.other-index l.before)) (view_use l.used) ≡ is_named (view_uses l.before) (view_use l.used)
