use Rattle.std.proofs.Common.{◌≡◌}
use Rattle.script_check.specs.Places.{renumbered}
use Rattle.script_check.proofs.places.renumbered.Given as goal

abbrev pub invariant-loop-i : goal.invariant-loop-i
invariant-loop-i l = l.found.items ≡ renumbered l.tokens l.i
