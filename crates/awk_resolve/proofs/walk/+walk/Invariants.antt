use Rattle.std.proofs.Common.{drop}
use Rattle.awk_grammar.specs.View.{views}
use Rattle.awk_grammar.specs.Marks.{all_marks, argument_marks, operand_marks}
use Rattle.latched.proofs.LatchedLemmas.{Adding}
use Rattle.awk_resolve.specs.View.{view_mark, view_place}
use Rattle.awk_resolve.proofs.walk.+walk.Given as goal

abbrev pub invariant-push_all-loop-e : goal.invariant-push_all-loop-e
invariant-push_all-loop-e l = Adding view_mark l.fn.out l.out (all_marks (view_place l.place) (views (drop l.e-index l.es))) (all_marks (view_place l.place) (views l.es))

abbrev pub invariant-push_arguments-loop-i : goal.invariant-push_arguments-loop-i
invariant-push_arguments-loop-i l =
    Adding view_mark l.fn.out l.out (argument_marks (view_place l.place) l.function l.i (views (drop l.i l.arguments))) (argument_marks (view_place l.place) l.function 0 (views l.arguments))

abbrev pub invariant-push_operands-loop-i : goal.invariant-push_operands-loop-i
invariant-push_operands-loop-i l =
    Adding view_mark l.fn.out l.out (operand_marks (view_place l.place) l.function l.i (views (drop l.i l.arguments))) (operand_marks (view_place l.place) l.function 0 (views l.arguments))
