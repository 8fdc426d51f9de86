use Rattle.std.proofs.Common.{drop}
use Rattle.awk_grammar.specs.View.{views}
use Rattle.awk_grammar.specs.Marks.{computed_marks}
use Rattle.latched.proofs.LatchedLemmas.{Adding}
use Rattle.awk_resolve.specs.View.{view_mark}
use Rattle.awk_resolve.proofs.walk.push_computed.Given as goal

abbrev pub invariant-loop-i : goal.invariant-loop-i
invariant-loop-i l = Adding view_mark l.fn.out l.out (computed_marks l.function l.i (views (drop l.i l.arguments))) (computed_marks l.function 0 (views l.arguments))
