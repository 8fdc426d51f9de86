use Rattle.std.proofs.Common.{◌≡◌, ◌-◌, ◌<◌, ◌≤◌, Some, length, true}
use Rattle.std.specs.Prelude.{slice_get}
use Rattle.ere_match.specs.Ends.{AreTails, raised}
use Rattle.ere_match.specs.Rows.{AreEarly, IsSearching, IsTable, SpecRow}
use Rattle.ere_match.proofs.search.follow.Given as goal

abbrev pub invariant-loop-at : goal.invariant-loop-at
invariant-loop-at l = record {
  above : l.from ≤ l.at;
  inside : l.at ≤ length l.text;
  ended : l.best.1 < l.at;
  table : ∥ IsTable l.nodes l.entry l.classes l.table ∥₁;
  search : ∥ IsSearching l.nodes l.text l.entry l.from l.at l.state (Some l.best) l.table ∥₁;
  early : (row : SpecRow) → slice_get l.table.rows.items l.state ≡ Some row → AreEarly row l.table.starts.items l.best.0;
  tails : (row : SpecRow) → slice_get l.table.rows.items l.state ≡ Some row → AreTails l.nodes l.text l.at l.at true row (raised l.best.1 l.ends);
}

abbrev pub decreases-loop-at : goal.decreases-loop-at
decreases-loop-at l = length l.text - l.at
