use Rattle.std.proofs.Common.{suc, ◌+◌, ◌≤◌, length, map}
use Rattle.wasm_types.specs.Syntax.{Instructions}
use Rattle.lower_pieces.specs.Bounds.{most_places}
use Rattle.lower_pieces.specs.Forms.{view_form}
use Rattle.lower_pieces.proofs.Appended.{Follows}
use Rattle.lower_expressions.specs.Parts.{all_joined}
use Rattle.lower_expressions.specs.View.{view_layout}
use Rattle.lower_expressions.proofs.operands.all_joined.Given as goal

abbrev pub decreases-loop-first : goal.decreases-loop-first
decreases-loop-first l = length l.left

abbrev pub invariant-loop-first : goal.invariant-loop-first
invariant-loop-first l = record {
  few : suc (suc (suc l.temporary)) + length l.left ≤ most_places;
  emits : (k : Instructions) → Follows l.out (all_joined (view_layout l.layout) (map view_form l.left) (view_form l.second) l.temporary l.exit k)
      l.fn.out (all_joined (view_layout l.layout) (map view_form l.forms) (view_form l.fn.last) l.temporary l.exit k);
}
