use Rattle.std.proofs.Common.{◌≡◌, ◌+◌, ◌++◌, ◌<◌, ◌^◌, drop, length, map}
use Rattle.mid_program.specs.Mid as plain
use Rattle.mid_program.specs.View.{view_routine}
use Rattle.lower_model.specs.Places.{memory_of}
use Rattle.lower_layout.specs.Spans.{spans_from}
use Rattle.lower_layout.proofs.spans.place_routines.Given as goal

abbrev pub invariant-loop-routine : goal.invariant-loop-routine
invariant-loop-routine l = record {
  spans : l.spans.items ++ spans_from l.next (map (λ (r : plain.Routine). r.name) (map view_routine (drop l.routine-index l.routines))) ≡ l.fn.spans.items ++ spans_from l.place (map (λ (r : plain.Routine). r.name) (map view_routine l.routines));
  end : l.next + length (memory_of (map (λ (r : plain.Routine). r.name) (map view_routine (drop l.routine-index l.routines)))) ≡ l.place + length (memory_of (map (λ (r : plain.Routine). r.name) (map view_routine l.routines)));
  few : l.next < 2 ^ 32;
}
