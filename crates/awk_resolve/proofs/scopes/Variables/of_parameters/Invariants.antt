use Rattle.std.proofs.Common.{◌≡◌, false, drop}
use Rattle.awk_grammar.specs.Kinds.{parameter_keys, with_keys}
use Rattle.awk_resolve.specs.ViewVariables.{distinct_parameters}
use Rattle.awk_resolve.specs.ViewNames.{view_heads, view_variables}
use Rattle.awk_resolve.proofs.scopes.Variables.of_parameters.Given as goal

abbrev pub invariant-loop-head : goal.invariant-loop-head
invariant-loop-head l = l.all.is_refused ≡ false → with_keys (view_variables l.all.found.keys) (parameter_keys (view_heads (drop l.head-index l.heads))) ≡ distinct_parameters (view_heads l.heads)
