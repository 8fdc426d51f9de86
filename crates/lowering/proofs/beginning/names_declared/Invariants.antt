use Rattle.std.proofs.Common.{◌≡◌, ◌+◌, drop, map}
use Rattle.wasm_types.specs.Syntax.{Instructions}
use Rattle.mid_program.specs.Sorted.{kinds_of}
use Rattle.mid_program.specs.View.{view_declared}
use Rattle.lower_model.specs.Statements.{names_declared}
use Rattle.lower_pieces.proofs.Appended.{Follows}
use Rattle.lower_expressions.specs.View.{view_layout}
use Rattle.lowering.proofs.beginning.names_declared.Given as goal

abbrev pub invariant-loop-name : goal.invariant-loop-name
invariant-loop-name l = record {
  place : l.text ≡ l.first + l.name-index;
  emits : (k : Instructions) →
      Follows l.out (names_declared (view_layout l.fn.layout) l.text (kinds_of (map view_declared (drop l.name-index l.fn.layout.script.now.program.now.globals.items))) k)
      l.fn.out (names_declared (view_layout l.fn.layout) l.first (kinds_of (map view_declared l.fn.layout.script.now.program.now.globals.items)) k);
}
