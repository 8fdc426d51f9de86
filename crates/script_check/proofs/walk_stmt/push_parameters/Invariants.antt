use Rattle.std.proofs.Common.{drop}
use Rattle.awk_grammar.specs.ViewStmt.{view_names}
use Rattle.script_check.specs.Uses.{parameter_uses}
use Rattle.latched.proofs.LatchedLemmas.{Adding}
use Rattle.script_check.specs.View.{view_use}
use Rattle.script_check.proofs.walk_stmt.push_parameters.Given as goal

abbrev pub invariant-loop-name : goal.invariant-loop-name
invariant-loop-name l = Adding view_use l.fn.out l.out (parameter_uses l.function (view_names (drop l.name-index l.parameters))) (parameter_uses l.function (view_names l.parameters))
