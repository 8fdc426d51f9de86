use Rattle.std.proofs.Common.{◌≡◌, ◌++◌, drop, map}
use Rattle.mid_program.specs.Sorted.{kinds_of}
use Rattle.mid_program.specs.View.{view_declared}
use Rattle.lower_layout.specs.Spans.{arrays_from}
use Rattle.lower_layout.proofs.script.array_names.Given as goal

abbrev pub invariant-loop-place : goal.invariant-loop-place
invariant-loop-place l = l.arrays.items ++ arrays_from l.place (kinds_of (map view_declared (drop l.place l.names))) ≡ arrays_from 0 (kinds_of (map view_declared l.names))
