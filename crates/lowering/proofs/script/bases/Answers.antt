use Rattle.std.proofs.Common.{arith}
use Rattle.lower_modules.proofs.LengthsLemmas.{local_count}
use Rattle.lower_modules.specs.Fits.{view_needs}
use Rattle.lowering.proofs.script.bases.Goals as goal

pub new-requires-clause-temporaries : goal.new-requires-clause-temporaries
new-requires-clause-temporaries c = let n = local_count (view_needs c.args.needs) in let l = c.requires.locals in omega (arith, n, l)

pub new-requires-clause-iterators : goal.new-requires-clause-iterators
new-requires-clause-iterators c = let n = local_count (view_needs c.args.needs) in let l = c.requires.locals in omega (arith, n, l)

pub new-requires-clause-arrays : goal.new-requires-clause-arrays
new-requires-clause-arrays c = let n = local_count (view_needs c.args.needs) in let l = c.requires.locals in omega (arith, n, l)
