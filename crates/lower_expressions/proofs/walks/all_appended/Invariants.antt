use Rattle.std.proofs.Common.{◌+◌, ◌≤◌, length, map}
use Rattle.wasm_types.specs.Syntax.{Instructions}
use Rattle.lower_pieces.specs.Bounds.{most_places}
use Rattle.lower_pieces.specs.Forms.{view_form}
use Rattle.lower_pieces.proofs.Appended.{Follows}
use Rattle.lower_expressions.specs.Parts.{appended_with}
use Rattle.lower_expressions.proofs.walks.all_appended.Given as goal

abbrev pub decreases-loop-rest : goal.decreases-loop-rest
decreases-loop-rest l = length l.left

abbrev pub invariant-loop-rest : goal.invariant-loop-rest
invariant-loop-rest l = record {
  few : l.place + length l.left ≤ most_places;
  emits : (k : Instructions) → Follows l.out (appended_with l.fn.bases (map view_form l.left) l.place k) l.fn.out (appended_with l.fn.bases (map view_form l.forms) l.temporary k);
}
