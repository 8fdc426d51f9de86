use Rattle.std.proofs.Common.{◌≡◌, ◌++◌, map, drop}
use Rattle.mid_program.specs.View.{view_kind}
use Rattle.lower_model.specs.Places.{kind_type}
use Rattle.lower_modules.proofs.types.kind_types.Given as goal

abbrev pub invariant-loop-kind : goal.invariant-loop-kind
invariant-loop-kind l = l.types.items ++ map kind_type (map view_kind (drop l.kind-index l.kinds)) ≡ map kind_type (map view_kind l.kinds)
