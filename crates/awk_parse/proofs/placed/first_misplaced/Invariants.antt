use Rattle.std.proofs.Common.{◌≡◌, drop}
use Rattle.awk_parse.specs.Jumps.{first_misplaced}
use Rattle.awk_parse.proofs.placed.first_misplaced.Given as goal

abbrev pub invariant-loop-index : goal.invariant-loop-index
invariant-loop-index l = first_misplaced (drop l.index l.fits) (drop l.index l.lines) ≡ first_misplaced l.fits l.lines
