use Rattle.std.proofs.Common.{◌≡◌, ◌++◌, drop, map}
use Rattle.awk_resolve.specs.ViewKinds.{view_name_kinds}
use Rattle.mid_program.specs.Translation.{declared_code}
use Rattle.mid_program.specs.View.{view_declared}
use Rattle.mid_code.proofs.translate.declared.Given as goal

abbrev pub invariant-loop-name : goal.invariant-loop-name
invariant-loop-name l = map view_declared l.found.items ++ map declared_code (view_name_kinds (drop l.name-index l.names)) ≡ map declared_code (view_name_kinds l.names)
