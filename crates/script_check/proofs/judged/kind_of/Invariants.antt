use Rattle.std.proofs.Common.{◌≡◌, drop}
use Rattle.awk_resolve.specs.ViewKinds.{view_name_kinds}
use Rattle.script_check.specs.Matters.{kind_of}
use Rattle.script_check.proofs.judged.kind_of.Given as goal

abbrev pub invariant-loop-global : goal.invariant-loop-global
invariant-loop-global l = kind_of (view_name_kinds (drop l.global-index l.globals)) l.name ≡ kind_of (view_name_kinds l.globals) l.name
