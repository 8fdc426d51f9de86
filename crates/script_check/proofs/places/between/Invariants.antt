use Rattle.std.proofs.Common.{◌≡◌, ◌+◌, drop}
use Rattle.script_check.specs.declared.places.Gap.TheVariants.{Blank}
use Rattle.script_check.specs.Places.{gap_from}
use Rattle.script_check.proofs.places.between.Given as goal

abbrev pub invariant-loop-i : goal.invariant-loop-i
invariant-loop-i l = l.i + gap_from l.first l.gap (drop l.i l.rest) ≡ gap_from l.first Blank l.rest
