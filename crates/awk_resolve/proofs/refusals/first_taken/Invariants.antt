use Rattle.std.proofs.Common.{◌≡◌, false, [], take, drop}
use Rattle.awk_grammar.specs.Kinds.{defined, declared, first_duplicate}
use Rattle.awk_resolve.specs.View.{view_marks}
use Rattle.awk_resolve.specs.ViewNames.{names, view_heads, view_variables}
use Rattle.awk_resolve.proofs.refusals.first_taken.Given as goal

abbrev pub invariant-loop-mark : goal.invariant-loop-mark
invariant-loop-mark l = record {
  functions : l.seen.is_refused ≡ false → names l.seen.functions.keys ≡ defined (view_marks (take l.mark-index l.marks));
  parameters : l.seen.is_refused ≡ false → view_variables l.seen.parameters.keys ≡ declared (view_marks (take l.mark-index l.marks));
  rest : l.seen.is_refused ≡ false → first_duplicate (view_heads l.scopes.heads.items) (view_marks (take l.mark-index l.marks)) (view_marks (drop l.mark-index l.marks)) ≡ first_duplicate (view_heads l.scopes.heads.items) [] (view_marks l.marks);
}
