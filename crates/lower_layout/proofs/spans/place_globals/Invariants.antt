use Rattle.std.proofs.Common.{◌≡◌, ◌+◌, ◌++◌, ◌<◌, ◌^◌, drop, length, map}
use Rattle.mid_program.specs.Mid as plain
use Rattle.mid_program.specs.View.{view_declared}
use Rattle.lower_model.specs.Places.{memory_of}
use Rattle.lower_layout.specs.Spans.{spans_from}
use Rattle.lower_layout.proofs.spans.place_globals.Given as goal

abbrev pub invariant-loop-declared : goal.invariant-loop-declared
invariant-loop-declared l = record {
  spans : l.spans.items ++ spans_from l.next (map (λ (d : plain.Declared). d.name) (map view_declared (drop l.declared-index l.globals))) ≡ l.fn.spans.items ++ spans_from l.place (map (λ (d : plain.Declared). d.name) (map view_declared l.globals));
  end : l.next + length (memory_of (map (λ (d : plain.Declared). d.name) (map view_declared (drop l.declared-index l.globals)))) ≡ l.place + length (memory_of (map (λ (d : plain.Declared). d.name) (map view_declared l.globals)));
  few : l.next < 2 ^ 32;
}
