use Rattle.std.proofs.Common.{◌≡◌, ◌≤◌, ◌++◌, drop, length}
use Rattle.host_imports.specs.Imports.{imports}
use Rattle.lower_model.specs.Modules.{chosen}
use Rattle.lower_modules.proofs.called_imports.chosen.Given as goal

abbrev pub invariant-loop-place : goal.invariant-loop-place
invariant-loop-place l = record {
  chosen : l.used.items ++ chosen (drop l.place l.called) (drop l.place imports) ≡ chosen l.called imports;
  few : length l.used.items ≤ l.place;
}
