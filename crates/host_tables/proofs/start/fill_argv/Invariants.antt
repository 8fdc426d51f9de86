use Rattle.std.proofs.Common.{◌≡◌, ◌∷◌, pos, take, codes}
use Rattle.std.specs.FinMap as maps
use Rattle.sem_primitives.specs.ArrayMeaning.{numbered}
use Rattle.host_tables.proofs.start.fill_argv.Given as goal

abbrev pub invariant-loop-at : goal.invariant-loop-at
invariant-loop-at l = l.arrays ≡ maps.insert l.fn.arrays (pos 0) (numbered 0 (codes "awk" ∷ take l.at l.operands))
