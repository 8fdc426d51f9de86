use Rattle.std.proofs.Common.{sym, ◌∙◌, arith}
use Rattle.awk_parse.proofs.Places.{misplaced_short}
use Rattle.awk_parse.proofs.placed.first_misplaced.Goals as goal

pub returns-in_default : goal.returns-in_default
returns-in_default c = sym (misplaced_short c.args.fits.now c.args.lines.now c.loop-index.index (omega (arith, c.in_default.ensures.lookup))) ∙ c.loop-index.invariant
