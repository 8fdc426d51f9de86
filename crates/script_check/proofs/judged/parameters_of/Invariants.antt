use Rattle.std.proofs.Common.{◌≡◌, drop}
use Rattle.awk_grammar.specs.Kinds.{heads, parameters_of}
use Rattle.awk_grammar.specs.ViewStmt.{view_items}
use Rattle.script_check.proofs.judged.parameters_of.Given as goal

abbrev pub invariant-loop-item : goal.invariant-loop-item
invariant-loop-item l = parameters_of (heads (view_items (drop l.item-index l.script.items.items))) l.function ≡ parameters_of (heads (view_items l.script.items.items)) l.function
