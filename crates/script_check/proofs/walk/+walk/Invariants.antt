use Rattle.std.proofs.Common.{drop}
use Rattle.awk_grammar.specs.View.{views}
use Rattle.script_check.specs.Uses.{all_uses, operand_uses}
use Rattle.latched.proofs.LatchedLemmas.{Adding}
use Rattle.script_check.specs.View.{view_use, view_place}
use Rattle.script_check.proofs.walk.+walk.Given as goal

abbrev pub invariant-push_all-loop-e : goal.invariant-push_all-loop-e
invariant-push_all-loop-e l = Adding view_use l.fn.out l.out (all_uses (view_place l.place) l.way (views (drop l.e-index l.es))) (all_uses (view_place l.place) l.way (views l.es))

abbrev pub invariant-push_operands-loop-i : goal.invariant-push_operands-loop-i
invariant-push_operands-loop-i l =
    Adding view_use l.fn.out l.out (operand_uses (view_place l.place) l.function l.i (views (drop l.i l.arguments))) (operand_uses (view_place l.place) l.function 0 (views l.arguments))
