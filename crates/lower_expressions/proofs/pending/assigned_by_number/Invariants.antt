use Rattle.std.proofs.Common.{◌≡◌, zero, drop, map}
use Rattle.wasm_types.specs.Syntax.{Instructions}
use Rattle.mid_program.specs.Sorted.{kinds_of}
use Rattle.mid_program.specs.View.{view_declared}
use Rattle.lower_model.specs.Emission.{assigned_by_number}
use Rattle.lower_pieces.proofs.Appended.{Follows}
use Rattle.lower_expressions.specs.View.{view_layout}
use Rattle.lower_expressions.proofs.pending.assigned_by_number.Given as goal

abbrev pub invariant-loop-declared : goal.invariant-loop-declared
invariant-loop-declared l = record {
  place : l.name ≡ l.declared-index;
  emits : (k : Instructions) →
      Follows l.out (assigned_by_number (view_layout l.fn.layout) (kinds_of (map view_declared (drop l.declared-index l.fn.layout.script.now.program.now.globals.items))) l.declared-index l.temporary k)
      l.fn.out (assigned_by_number (view_layout l.fn.layout) (kinds_of (map view_declared l.fn.layout.script.now.program.now.globals.items)) zero l.temporary k);
}
