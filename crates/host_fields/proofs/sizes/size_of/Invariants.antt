use Rattle.std.proofs.Common.{◌≡◌, ◌*◌, ◌^◌, ◌≤◌, take}
use Rattle.std.specs.List.{sum_by}
use Rattle.host_fields.specs.Held.{text_size}
use Rattle.host_fields.proofs.sizes.size_of.Given as goal

abbrev pub invariant-loop-value : goal.invariant-loop-value
invariant-loop-value l = record {
  sum : l.size ≡ sum_by text_size (take l.value-index l.values);
  few : l.size ≤ l.value-index * 2 ^ 64;
}
