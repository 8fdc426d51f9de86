use Rattle.std.proofs.Common.{◌≡◌, ◌+◌, ◌-◌, ◌*◌, ◌≤◌, Bool, false, ◌∷◌, length, map}
use Rattle.wasm_types.specs.Syntax.{Instructions}
use Rattle.mid_program.specs.Mid as plain
use Rattle.mid_program.specs.Mid.{form_of}
use Rattle.mid_program.specs.ViewCode.{joined, view, views}
use Rattle.lower_model.specs.Emission.{emitted}
use Rattle.lower_pieces.specs.Forms.{view_form}
use Rattle.lower_pieces.proofs.Appended.{Follows}
use Rattle.lower_expressions.specs.CodeAt.{Unrefused}
use Rattle.lower_expressions.specs.Fits.{AllFit}
use Rattle.lower_expressions.specs.Keeps.{keeping_in}
use Rattle.lower_expressions.specs.Parts.{all_joined}
use Rattle.lower_expressions.specs.View.{view_layout}
use Rattle.lower_expressions.proofs.Weights.{weight, weights}
use Rattle.lower_expressions.proofs.expressions.+expressions.Given as goal

abbrev pub decreases-evaluated : goal.decreases-evaluated
decreases-evaluated l = 4 * weight (view l.code.now)

abbrev pub decreases-all_operands : goal.decreases-all_operands
decreases-all_operands l = 4 * weights (views l.operands.now)

abbrev pub decreases-operation : goal.decreases-operation
decreases-operation l = 4 * weights (views l.operands.now) + 3

abbrev pub decreases-sum : goal.decreases-sum
decreases-sum l = 4 * weights (views l.operands.now) + 2

abbrev pub decreases-anyway : goal.decreases-anyway
decreases-anyway l = 4 * weights (views l.operands.now) + 1

abbrev pub decreases-listing : goal.decreases-listing
decreases-listing l = 4 * weights (views l.operands.now) + 3

abbrev pub decreases-call : goal.decreases-call
decreases-call l = 4 * weights (views l.operands.now) + 3

abbrev pub decreases-comparison : goal.decreases-comparison
decreases-comparison l = 4 * (weight (view l.left.now) + weight (view l.right.now)) + 3

abbrev pub decreases-stored : goal.decreases-stored
decreases-stored l = 4 * weight (view l.store.now) + 1

abbrev pub decreases-line_into : goal.decreases-line_into
decreases-line_into l = 4 * weight (view l.store.now) + 3

abbrev pub decreases-file_line : goal.decreases-file_line
decreases-file_line l = 4 * (weight (view l.file.now) + weight (view l.store.now)) + 3

abbrev pub decreases-replacement : goal.decreases-replacement
decreases-replacement l = 4 * (weights (views l.operands.now) + weight (view l.store.now)) + 3

abbrev pub decreases-assignment : goal.decreases-assignment
decreases-assignment l = 4 * weight (view l.value.now) + 3

abbrev pub decreases-branch : goal.decreases-branch
decreases-branch l = 4 * weight (view l.code.now) + 1

abbrev pub decreases-choice : goal.decreases-choice
decreases-choice l = 4 * (weight (view l.test.now) + (weight (view l.yes.now) + weight (view l.no.now))) + 3

abbrev pub decreases-sequence : goal.decreases-sequence
decreases-sequence l = 4 * (weight (view l.first.now) + weight (view l.second.now)) + 3

abbrev pub decreases-keeping : goal.decreases-keeping
decreases-keeping l = 4 * (weight (view l.value.now) + weight (view l.rest.now)) + 3

abbrev pub decreases-key : goal.decreases-key
decreases-key l = 4 * weight (joined (view l.first.now ∷ map view l.others.now) (view l.last.now)) - 1

abbrev pub decreases-key-loop-other : goal.decreases-key-loop-other
decreases-key-loop-other l = length l.left

abbrev pub invariant-key-loop-other : goal.invariant-key-loop-other
invariant-key-loop-other l = record {
  fit : AllFit (view_layout l.layout) (plain.At (joined (map view l.left) (view l.last)) plain.End) l.place.temporary l.place.arrays l.place.exit;
  arrays : l.place.arrays ≡ l.at.arrays;
  exit : l.place.exit ≡ l.at.exit;
  few : l.at.temporary + length l.forms.items ≤ l.place.temporary;
  counted : Unrefused l.out (l.place.temporary ≡ l.at.temporary + length l.forms.items);
  emits : (v : Bool) (k : Instructions) →
      Follows l.out (emitted (view_layout l.layout) false (keeping_in l.keeps).forms (keeping_in l.keeps).temporaries (joined (map view l.left) (view l.last)) l.place.temporary l.at.arrays l.at.exit
      (all_joined (view_layout l.layout) (map view_form l.forms.items) (form_of (keeping_in l.keeps).forms (joined (map view l.left) (view l.last))) l.at.temporary l.at.exit k))
      l.fn.out (emitted (view_layout l.layout) v (keeping_in l.keeps).forms (keeping_in l.keeps).temporaries (joined (view l.first ∷ map view l.others) (view l.last)) l.at.temporary l.at.arrays l.at.exit k);
  lighter : weight (joined (map view l.left) (view l.last)) ≤ weight (joined (map view l.others) (view l.last));
}
