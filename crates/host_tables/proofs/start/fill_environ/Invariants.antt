use Rattle.std.proofs.Common.{◌≡◌, [], pos, take, map}
use Rattle.std.specs.FinMap as maps
use Rattle.sem_primitives.specs.Jobs.{environment_in}
use Rattle.host_texts.specs.NameForms.{pair_of}
use Rattle.host_tables.proofs.start.fill_environ.Given as goal

abbrev pub invariant-loop-pair : goal.invariant-loop-pair
invariant-loop-pair l = l.arrays ≡ maps.insert l.fn.arrays (pos 1) (environment_in [] (map pair_of (take l.pair-index l.environment)))
