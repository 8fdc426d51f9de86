use Rattle.std.proofs.Common.{drop}
use Rattle.awk_grammar.specs.Kinds.{globals_by}
use Rattle.latched.specs.Latched.{Leads}
use Rattle.awk_resolve.specs.Marked.{is_marked_in}
use Rattle.awk_resolve.specs.ViewNames.{view_variables}
use Rattle.awk_resolve.specs.ViewKinds.{view_name}
use Rattle.awk_resolve.proofs.listing.listed_globals.Given as goal

abbrev pub invariant-loop-variable : goal.invariant-loop-variable
invariant-loop-variable l =
    Leads view_name l.all (globals_by (is_marked_in (view_variables l.kinds.variables.keys) l.kinds.arrays.items) (view_variables (drop l.variable-index l.kinds.variables.keys)))
    (globals_by (is_marked_in (view_variables l.kinds.variables.keys) l.kinds.arrays.items) (view_variables l.kinds.variables.keys))
