use Rattle.std.proofs.Common.{◌≡◌, false, drop}
use Rattle.awk_grammar.specs.ViewStmt.{view_names}
use Rattle.awk_grammar.specs.Kinds.{head_keys, with_keys}
use Rattle.awk_resolve.specs.ViewNames.{view_variables}
use Rattle.awk_resolve.proofs.scopes.Variables.add_parameters.Given as goal

abbrev pub invariant-loop-name : goal.invariant-loop-name
invariant-loop-name l =
    l.self.is_refused ≡ false → (l.fn.self.is_refused ≡ false)
    × (with_keys (view_variables l.self.found.keys) (head_keys l.function (view_names (drop l.name-index l.parameters))) ≡ with_keys (view_variables l.fn.self.found.keys) (head_keys l.function (view_names l.parameters)))
