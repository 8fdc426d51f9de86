use Rattle.std.proofs.Common.{◌-◌, length}
use Rattle.wasm_types.specs.Syntax.{Instructions}
use Rattle.lower_model.specs.Statements.{routines_declared}
use Rattle.lower_pieces.proofs.Appended.{Follows}
use Rattle.lower_expressions.specs.View.{view_layout}
use Rattle.lowering.proofs.beginning.routines_declared.Given as goal

abbrev pub invariant-loop-text : goal.invariant-loop-text
invariant-loop-text l =
    (k : Instructions) →
    Follows l.out (routines_declared (view_layout l.fn.layout) l.text (l.past - l.text) k)
    l.fn.out (routines_declared (view_layout l.fn.layout) l.first (length (view_layout l.fn.layout).calls) k)
