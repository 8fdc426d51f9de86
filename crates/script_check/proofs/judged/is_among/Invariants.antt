use Rattle.std.proofs.Common.{◌≡◌, drop}
use Rattle.awk_grammar.specs.Kinds.{has_name}
use Rattle.awk_grammar.specs.ViewStmt.{view_names}
use Rattle.script_check.proofs.judged.is_among.Given as goal

abbrev pub invariant-loop-other : goal.invariant-loop-other
invariant-loop-other l = has_name (view_names (drop l.other-index l.names)) l.name ≡ has_name (view_names l.names) l.name
