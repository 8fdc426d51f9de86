use Rattle.std.proofs.Common.{drop}
use Rattle.awk_grammar.specs.ViewStmt.{view_names}
use Rattle.awk_grammar.specs.Marks.{parameter_marks}
use Rattle.latched.proofs.LatchedLemmas.{Adding}
use Rattle.awk_resolve.specs.View.{view_mark}
use Rattle.awk_resolve.proofs.walk_stmt.push_parameters.Given as goal

abbrev pub invariant-loop-name : goal.invariant-loop-name
invariant-loop-name l = Adding view_mark l.fn.out l.out (parameter_marks l.function (view_names (drop l.name-index l.parameters))) (parameter_marks l.function (view_names l.parameters))
