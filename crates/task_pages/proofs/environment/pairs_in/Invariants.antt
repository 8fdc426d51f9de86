use Rattle.std.proofs.Common.{map, take, vec_items}
use Rattle.host_texts.specs.NameForms.{pair_of}
use Rattle.task_pages.specs.Environment.{ArePairsIn}
use Rattle.task_pages.proofs.environment.pairs_in.Given as goal

abbrev pub invariant-loop-entry : goal.invariant-loop-entry
invariant-loop-entry l = ArePairsIn (map vec_items (take l.entry-index l.entries)) (map pair_of l.pairs.items)
