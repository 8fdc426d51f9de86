use Rattle.std.proofs.Common.{drop, map, pos}
use Rattle.wasm_types.specs.Syntax.{Instructions}
use Rattle.lower_model.specs.Quick.{joined}
use Rattle.lower_model.specs.Emission.{name_read}
use Rattle.lower_pieces.proofs.Appended.{Follows}
use Rattle.lower_expressions.specs.View.{view_layout}
use Rattle.lower_quick.specs.View.{view_holder}
use Rattle.lower_expressions.specs.Sources.{NamesFit}
use Rattle.lower_expressions.proofs.sources.joined.Given as goal

abbrev pub invariant-loop-name : goal.invariant-loop-name
invariant-loop-name l = record {
  fit : NamesFit (map view_holder (drop l.name-index l.names));
  emits : (k : Instructions) →
      Follows l.out (joined (name_read (view_layout l.fn.layout)) (map view_holder (drop l.name-index l.names)) (pos l.shift) k)
      l.fn.out (joined (name_read (view_layout l.fn.layout)) (map view_holder l.names) (pos l.shift) k);
}
