use Rattle.std.proofs.Common.{take}
use Rattle.awk_resolve.specs.View.{view_marks}
use Rattle.awk_resolve.specs.ViewNames.{view_heads}
use Rattle.awk_resolve.specs.ViewUses.{AreUses}
use Rattle.awk_resolve.proofs.uses.uses_of.Given as goal

abbrev pub invariant-loop-mark : goal.invariant-loop-mark
invariant-loop-mark l = AreUses (view_heads l.scopes.heads.items) l.uses (view_marks (take l.mark-index l.marks))
