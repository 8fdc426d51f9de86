use Rattle.std.proofs.Common.{◌≡◌, ◌++◌, drop, map}
use Rattle.awk_resolve.specs.ViewKinds.{view_name_kinds}
use Rattle.mid_program.specs.Translation.{kind_of}
use Rattle.mid_program.specs.View.{view_kind}
use Rattle.mid_code.proofs.translate.kinds_of.Given as goal

abbrev pub invariant-loop-name : goal.invariant-loop-name
invariant-loop-name l = map view_kind l.kinds.items ++ map kind_of (view_name_kinds (drop l.name-index l.names)) ≡ map kind_of (view_name_kinds l.names)
