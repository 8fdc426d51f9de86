use Rattle.std.proofs.Common.{map, drop}
use Rattle.awk_grammar.specs.ViewStmt.{view_names}
use Rattle.awk_grammar.specs.Kinds.{named, head_keys}
use Rattle.latched.specs.Latched.{Leads}
use Rattle.awk_resolve.specs.Marked.{is_marked_in}
use Rattle.awk_resolve.specs.ViewNames.{view_variables}
use Rattle.awk_resolve.specs.ViewKinds.{view_name}
use Rattle.awk_resolve.proofs.listing.function_names.Given as goal

abbrev pub invariant-loop-parameter : goal.invariant-loop-parameter
invariant-loop-parameter l =
    Leads view_name l.all
    (map (named (is_marked_in (view_variables l.kinds.variables.keys) l.kinds.arrays.items)) (head_keys l.head.name.now (view_names (drop l.parameter-index l.head.parameters.now))))
    (map (named (is_marked_in (view_variables l.kinds.variables.keys) l.kinds.arrays.items)) (head_keys l.head.name.now (view_names l.head.parameters.now)))
