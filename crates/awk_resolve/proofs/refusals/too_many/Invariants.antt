use Rattle.std.proofs.Common.{◌≡◌, drop}
use Rattle.awk_grammar.specs.Kinds.{too_many}
use Rattle.awk_resolve.specs.ViewNames.{view_heads}
use Rattle.awk_resolve.proofs.refusals.too_many.Given as goal

abbrev pub invariant-loop-i : goal.invariant-loop-i
invariant-loop-i l = too_many l.i (view_heads (drop l.i l.heads)) ≡ too_many 0 (view_heads l.heads)
