use Rattle.std.proofs.Common.{◌≡◌, drop}
use Rattle.awk_grammar.specs.Kinds.{clash, first}
use Rattle.awk_resolve.specs.Marked.{is_marked_in}
use Rattle.awk_resolve.specs.View.{view_marks}
use Rattle.awk_resolve.specs.ViewNames.{view_heads, view_variables}
use Rattle.awk_resolve.proofs.sets.Kinds.first_clash.Given as goal

abbrev pub invariant-loop-mark : goal.invariant-loop-mark
invariant-loop-mark l =
    first (clash (is_marked_in (view_variables l.self.variables.keys) l.self.arrays.items) (is_marked_in (view_variables l.self.variables.keys) l.self.scalars.items) (view_heads l.scopes.heads.items)) (view_marks (drop l.mark-index l.marks))
    ≡ first (clash (is_marked_in (view_variables l.self.variables.keys) l.self.arrays.items) (is_marked_in (view_variables l.self.variables.keys) l.self.scalars.items) (view_heads l.scopes.heads.items)) (view_marks l.marks)
