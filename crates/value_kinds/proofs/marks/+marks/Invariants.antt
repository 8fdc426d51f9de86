use Rattle.std.proofs.Common.{◌≡◌, drop, map}
use Rattle.mid_program.specs.ViewCode.{view, views}
use Rattle.mid_program.specs.Stores.{stores_given, stores_in}
use Rattle.value_kinds.specs.View.{view_kept, view_walk}
use Rattle.value_kinds.specs.Walks.{after, stores_each}
use Rattle.value_kinds.proofs.marks.+marks.Given as goal

abbrev pub invariant-mark_arguments-loop-place : goal.invariant-mark_arguments-loop-place
invariant-mark_arguments-loop-place l =
    after (view_walk l.walk) (stores_given l.function l.place (view_kept l.kept) (views (drop l.place l.operands))) ≡ after (view_walk l.fn.walk) (stores_given l.function 0 (view_kept l.kept) (views l.operands))

abbrev pub invariant-mark_operands-loop-operand : goal.invariant-mark_operands-loop-operand
invariant-mark_operands-loop-operand l =
    after (view_walk l.walk) (stores_in (view_kept l.kept) (views (drop l.operand-index l.operands))) ≡ after (view_walk l.fn.walk) (stores_in (view_kept l.kept) (views l.operands))

abbrev pub invariant-mark_codes-loop-code : goal.invariant-mark_codes-loop-code
invariant-mark_codes-loop-code l =
    after (view_walk l.walk) (stores_each (view_kept l.kept) (map view (drop l.code-index l.codes))) ≡ after (view_walk l.fn.walk) (stores_each (view_kept l.kept) (map view l.codes))
