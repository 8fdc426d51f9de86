use Rattle.std.proofs.Common.{◌-◌, ◌≤◌, drop, length, take}
use Rattle.sem_primitives.specs.Fields.{parted}
use Rattle.host_format.specs.Marks.{is_mark, kept, pieces_by, skips_empty}
use Rattle.host_format.specs.Spans.{IsSoFar}
use Rattle.host_format.proofs.fields.split_by.Given as goal

abbrev pub invariant-loop-at : goal.invariant-loop-at
invariant-loop-at l = record {
  inside : l.from ≤ length l.text;
  within : l.count ≤ length l.spans.items;
  pieces : IsSoFar l.text (take l.count l.spans.items) (kept (skips_empty l.marks) (parted (is_mark l.marks) (drop l.from l.text))) (pieces_by l.marks l.text);
}

abbrev pub decreases-loop-at : goal.decreases-loop-at
decreases-loop-at l = length l.text - l.from
