use Rattle.std.proofs.Common.{◌≡◌, drop}
use Rattle.awk_grammar.specs.ViewStmt.{view_script}
use Rattle.script_check.specs.Matters.{has_whole}
use Rattle.script_check.specs.View.{view_uses}
use Rattle.script_check.proofs.judged.has_whole.Given as goal

abbrev pub invariant-loop-used : goal.invariant-loop-used
invariant-loop-used l = has_whole (view_script l.script) l.aspect l.name (view_uses (drop l.used-index l.uses)) ≡ has_whole (view_script l.script) l.aspect l.name (view_uses l.uses)
