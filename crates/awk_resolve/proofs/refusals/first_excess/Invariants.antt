use Rattle.std.proofs.Common.{◌≡◌, drop}
use Rattle.awk_grammar.specs.Kinds.{excess, first}
use Rattle.awk_resolve.specs.View.{view_marks}
use Rattle.awk_resolve.specs.ViewNames.{view_heads}
use Rattle.awk_resolve.proofs.refusals.first_excess.Given as goal

abbrev pub invariant-loop-mark : goal.invariant-loop-mark
invariant-loop-mark l = first (excess (view_heads l.scopes.heads.items)) (view_marks (drop l.mark-index l.marks)) ≡ first (excess (view_heads l.scopes.heads.items)) (view_marks l.marks)
