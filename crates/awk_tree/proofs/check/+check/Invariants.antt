use Rattle.std.proofs.Common.{◌≡◌, drop}
use Rattle.awk_grammar.specs.WellFormed.{all_well_formed}
use Rattle.awk_grammar.specs.View.{views}
use Rattle.awk_tree.proofs.check.+check.Given as goal

abbrev pub invariant-are_fine-loop-e : goal.invariant-are_fine-loop-e
invariant-are_fine-loop-e l = all_well_formed l.greater (views (drop l.e-index l.es)) ≡ all_well_formed l.greater (views l.es)
