use Rattle.std.proofs.Common.{◌≡◌, drop}
use Rattle.awk_grammar.specs.Kinds.{has_name}
use Rattle.awk_resolve.specs.ViewNames.{names}
use Rattle.script_check.proofs.troubles.is_one_of.Given as goal

abbrev pub invariant-loop-other : goal.invariant-loop-other
invariant-loop-other l = has_name (names (drop l.other-index l.list)) l.name ≡ has_name (names l.list) l.name
