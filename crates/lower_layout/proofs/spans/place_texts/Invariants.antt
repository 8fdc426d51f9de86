use Rattle.std.proofs.Common.{◌≡◌, ◌+◌, ◌++◌, ◌<◌, ◌^◌, drop, length}
use Rattle.mid_program.specs.View.{view_texts}
use Rattle.lower_model.specs.Places.{memory_of}
use Rattle.lower_layout.specs.Spans.{spans_from}
use Rattle.lower_layout.proofs.spans.place_texts.Given as goal

abbrev pub invariant-loop-text : goal.invariant-loop-text
invariant-loop-text l = record {
  spans : l.spans.items ++ spans_from l.next (view_texts (drop l.text-index l.texts)) ≡ l.fn.spans.items ++ spans_from l.place (view_texts l.texts);
  end : l.next + length (memory_of (view_texts (drop l.text-index l.texts))) ≡ l.place + length (memory_of (view_texts l.texts));
  few : l.next < 2 ^ 32;
}
