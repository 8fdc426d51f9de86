use Rattle.std.proofs.Common.{drop}
use Rattle.awk_grammar.specs.ViewStmt.{view_items}
use Rattle.awk_grammar.specs.Kinds.{heads}
use Rattle.awk_resolve.specs.ViewNames.{view_head}
use Rattle.awk_resolve.proofs.Listed.{Lists}
use Rattle.awk_resolve.proofs.scopes.heads_of.Given as goal

abbrev pub invariant-loop-item : goal.invariant-loop-item
invariant-loop-item l = Lists view_head (λ h. h.name) l.all (heads (view_items (drop l.item-index l.script.items.items))) (heads (view_items l.script.items.items))
