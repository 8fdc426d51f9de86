use Rattle.std.proofs.Common.{◌≤◌}
use Rattle.wasm_types.specs.Syntax.{Instructions}
use Rattle.lower_pieces.proofs.Appended.{Follows}
use Rattle.lower_expressions.specs.Parts.{freed_with}
use Rattle.lower_expressions.proofs.walks.all_freed.Given as goal

abbrev pub decreases-loop-left : goal.decreases-loop-left
decreases-loop-left l = l.left

abbrev pub invariant-loop-left : goal.invariant-loop-left
invariant-loop-left l = record {
  few : l.left ≤ l.count;
  emits : (k : Instructions) → Follows l.out (freed_with l.fn.bases l.arrays l.left k) l.fn.out (freed_with l.fn.bases l.arrays l.count k);
}
