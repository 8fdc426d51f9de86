use Rattle.std.proofs.Common.{◌≡◌, map, take}
use Rattle.std.specs.FinMap as tables
use Rattle.sem_primitives.specs.ArrayMeaning.{numbered}
use Rattle.host_format.specs.Spans.{span_text}
use Rattle.host_tables.proofs.filling.fill.Given as goal

abbrev pub invariant-loop-at : goal.invariant-loop-at
invariant-loop-at l = l.arrays ≡ tables.insert l.fn.arrays l.array (numbered 1 (map (span_text l.text) (take l.at l.spans)))
