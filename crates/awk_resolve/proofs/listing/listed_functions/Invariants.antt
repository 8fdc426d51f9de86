use Rattle.std.proofs.Common.{drop}
use Rattle.awk_grammar.specs.Kinds.{functions_by}
use Rattle.latched.specs.Latched.{Leads}
use Rattle.awk_resolve.specs.Marked.{is_marked_in}
use Rattle.awk_resolve.specs.ViewNames.{view_heads, view_variables}
use Rattle.awk_resolve.specs.ViewFunctions.{view_function}
use Rattle.awk_resolve.proofs.listing.listed_functions.Given as goal

abbrev pub invariant-loop-head : goal.invariant-loop-head
invariant-loop-head l =
    Leads view_function l.all (functions_by (is_marked_in (view_variables l.kinds.variables.keys) l.kinds.arrays.items) (view_heads (drop l.head-index l.heads)))
    (functions_by (is_marked_in (view_variables l.kinds.variables.keys) l.kinds.arrays.items) (view_heads l.heads))
