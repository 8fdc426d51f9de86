use Rattle.std.proofs.Common.{refl, arith}
use Rattle.lower_modules.specs.Fits.{view_needs}
use Rattle.lower_modules.proofs.LengthsLemmas.{local_count}
use Rattle.lower_modules.proofs.needs.few.Goals as goal

pub returns-then-locals-gt-MOST_LOCALS : goal.returns-then-locals-gt-MOST_LOCALS
returns-then-locals-gt-MOST_LOCALS c = let h = local_count (view_needs c.args.needs) in let k = c.if-locals-gt-MOST_LOCALS.true in omega (arith, h, k)

pub returns : goal.returns
returns c = let h = local_count (view_needs c.args.needs) in let k = c.if-locals-gt-MOST_LOCALS.false in (refl, omega (arith, h, k))
