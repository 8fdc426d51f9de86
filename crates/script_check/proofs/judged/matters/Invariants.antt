use Rattle.std.proofs.Common.{◌≡◌}
use Rattle.awk_grammar.specs.ViewStmt.{view_script}
use Rattle.awk_resolve.specs.ViewKinds.{view_name_kinds}
use Rattle.script_check.specs.Matters.{matters}
use Rattle.script_check.proofs.judged.matters.Given as goal

abbrev pub invariant-loop-i : goal.invariant-loop-i
invariant-loop-i l = l.found.items ≡ matters (view_script l.script) (view_name_kinds l.globals) l.uses l.i
