use Rattle.std.proofs.Common.{◌≡◌, ◌++◌, map, drop}
use Rattle.mid_program.specs.View.{view_kind}
use Rattle.value_kinds.specs.Lanes.{opened}
use Rattle.value_kinds.proofs.inference.open_parameters.Given as goal

abbrev pub invariant-loop-kind : goal.invariant-loop-kind
invariant-loop-kind l = map view_kind l.kinds.items ++ map opened (map view_kind (drop l.kind-index l.parameters)) ≡ map opened (map view_kind l.parameters)
