use Rattle.std.proofs.Common.{◌+◌, ◌≤◌, length, map}
use Rattle.wasm_types.specs.Syntax.{Instructions}
use Rattle.lower_pieces.specs.Bounds.{most_places}
use Rattle.lower_pieces.specs.Forms.{view_form}
use Rattle.lower_pieces.proofs.Appended.{Follows}
use Rattle.lower_expressions.specs.Parts.{boxed_with}
use Rattle.lower_expressions.proofs.walks.all_boxed.Given as goal

abbrev pub decreases-loop-form : goal.decreases-loop-form
decreases-loop-form l = length l.left

abbrev pub invariant-loop-form : goal.invariant-loop-form
invariant-loop-form l = record {
  few : l.place + length l.left ≤ most_places;
  emits : (k : Instructions) → Follows l.out (boxed_with l.fn.bases (map view_form l.left) l.place k) l.fn.out (boxed_with l.fn.bases (map view_form l.forms) l.temporary k);
}
