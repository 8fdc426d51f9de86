use Rattle.std.proofs.Common.{◌≡◌}
use Rattle.script_check.specs.Places.{told}
use Rattle.script_check.proofs.places.told.Given as goal

abbrev pub invariant-loop-i : goal.invariant-loop-i
invariant-loop-i l = l.found.items ≡ told l.tokens l.i
