use Rattle.std.proofs.Common.{◌≡◌, ◌+◌, ◌≤◌, ◌++◌, drop}
use Rattle.awk_resolve.specs.ViewKinds.{view_name_kinds}
use Rattle.mid_code.specs.ViewNames.{array_numbers}
use Rattle.mid_code.proofs.names.array_numbers.Given as goal

abbrev pub invariant-loop-name : goal.invariant-loop-name
invariant-loop-name l = record {
  numbers : l.numbers.items ++ array_numbers l.next (view_name_kinds (drop l.name-index l.names)) ≡ array_numbers 2 (view_name_kinds l.names);
  within : l.next ≤ l.name-index + 2;
}
