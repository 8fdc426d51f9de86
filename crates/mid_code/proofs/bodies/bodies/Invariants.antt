use Rattle.std.proofs.Common.{◌≡◌, ◌++◌, drop}
use Rattle.awk_grammar.specs.ViewStmt.{view_items}
use Rattle.sem_scripts.specs.Kinds.{bodies}
use Rattle.mid_code.specs.ViewNames.{view_bodies}
use Rattle.mid_code.proofs.bodies.bodies.Given as goal

abbrev pub invariant-loop-item : goal.invariant-loop-item
invariant-loop-item l = view_bodies l.found.items ++ bodies (view_items (drop l.item-index l.items)) ≡ bodies (view_items l.items)
