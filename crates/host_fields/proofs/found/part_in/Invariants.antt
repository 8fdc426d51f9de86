use Rattle.std.proofs.Common.{◌≡◌, ◌-◌, ◌≤◌, drop, length}
use Rattle.std.specs.Prelude.{slice_get}
use Rattle.sem_primitives.specs.Fields.{parted}
use Rattle.host_format.specs.Marks.{kept}
use Rattle.host_fields.specs.Ends.{is_end, skips_empty}
use Rattle.host_fields.proofs.found.part_in.Given as goal

abbrev pub invariant-loop-at : goal.invariant-loop-at
invariant-loop-at l = record {
  inside : l.from ≤ length l.text;
  same : slice_get (kept (skips_empty l.by) (parted (is_end l.by l.newlines) (drop l.from l.text))) l.left ≡ slice_get (kept (skips_empty l.by) (parted (is_end l.by l.newlines) l.text)) l.number;
}

abbrev pub decreases-loop-at : goal.decreases-loop-at
decreases-loop-at l = length l.text - l.from
