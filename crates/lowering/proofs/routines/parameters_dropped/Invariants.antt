use Rattle.std.proofs.Common.{◌≡◌, drop, map}
use Rattle.wasm_types.specs.Syntax.{Instructions}
use Rattle.mid_program.specs.View.{view_kind}
use Rattle.lower_model.specs.Statements.{parameters_dropped}
use Rattle.lower_pieces.proofs.Appended.{Follows}
use Rattle.lower_expressions.specs.View.{view_layout}
use Rattle.lowering.proofs.routines.parameters_dropped.Given as goal

abbrev pub invariant-loop-kind : goal.invariant-loop-kind
invariant-loop-kind l = record {
  place : l.local ≡ l.kind-index;
  emits : (k : Instructions) →
      Follows l.out (parameters_dropped (view_layout l.fn.layout) l.kind-index (map view_kind (drop l.kind-index l.kinds)) k)
      l.fn.out (parameters_dropped (view_layout l.fn.layout) 0 (map view_kind l.kinds) k);
}
