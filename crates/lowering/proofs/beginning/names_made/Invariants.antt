use Rattle.std.proofs.Common.{◌≡◌, drop, map}
use Rattle.wasm_types.specs.Syntax.{Instructions}
use Rattle.mid_program.specs.Sorted.{kinds_of}
use Rattle.mid_program.specs.View.{view_declared}
use Rattle.lower_model.specs.Statements.{names_made}
use Rattle.lower_pieces.proofs.Appended.{Follows}
use Rattle.lower_expressions.specs.View.{view_layout}
use Rattle.lowering.proofs.beginning.names_made.Given as goal

abbrev pub invariant-loop-declared : goal.invariant-loop-declared
invariant-loop-declared l = record {
  place : l.name ≡ l.declared-index;
  emits : (k : Instructions) →
      Follows l.out (names_made (view_layout l.fn.layout) l.declared-index (kinds_of (map view_declared (drop l.declared-index l.fn.layout.script.now.program.now.globals.items))) k)
      l.fn.out (names_made (view_layout l.fn.layout) 0 (kinds_of (map view_declared l.fn.layout.script.now.program.now.globals.items)) k);
}
