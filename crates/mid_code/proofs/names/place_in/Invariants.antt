use Rattle.std.proofs.Common.{◌≡◌, drop}
use Rattle.awk_resolve.specs.ViewKinds.{view_name_kinds}
use Rattle.mid_code.specs.ViewNames.{place_from}
use Rattle.mid_code.proofs.names.place_in.Given as goal

abbrev pub invariant-loop-i : goal.invariant-loop-i
invariant-loop-i l = place_from l.i (view_name_kinds (drop l.i l.names)) l.name ≡ place_from 0 (view_name_kinds l.names) l.name
