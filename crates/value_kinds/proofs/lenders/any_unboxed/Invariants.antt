use Rattle.std.proofs.Common.{◌≡◌, map, drop}
use Rattle.value_kinds.specs.Lanes.{any_unboxed}
use Rattle.value_kinds.specs.View.{view_kinds}
use Rattle.value_kinds.proofs.lenders.any_unboxed.Given as goal

abbrev pub invariant-loop-kinds : goal.invariant-loop-kinds
invariant-loop-kinds l = any_unboxed (map view_kinds (drop l.kinds-index l.functions)) l.place ≡ any_unboxed (map view_kinds l.functions) l.place
