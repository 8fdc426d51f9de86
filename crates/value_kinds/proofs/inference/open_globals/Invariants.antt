use Rattle.std.proofs.Common.{◌≡◌, ◌++◌, map, drop}
use Rattle.mid_program.specs.Sorted.{kinds_of}
use Rattle.mid_program.specs.View.{view_declared, view_kind}
use Rattle.value_kinds.specs.Lanes.{opened}
use Rattle.value_kinds.proofs.inference.open_globals.Given as goal

abbrev pub invariant-loop-global : goal.invariant-loop-global
invariant-loop-global l = map view_kind l.kinds.items ++ map opened (kinds_of (map view_declared (drop l.global-index l.globals))) ≡ map opened (kinds_of (map view_declared l.globals))
