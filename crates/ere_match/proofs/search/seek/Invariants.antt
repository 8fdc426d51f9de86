use Rattle.std.proofs.Common.{◌-◌, ◌≤◌, None, length}
use Rattle.ere_match.specs.Ends.{AreDead}
use Rattle.ere_match.specs.Rows.{IsSearching, IsTable}
use Rattle.ere_match.proofs.search.seek.Given as goal

abbrev pub invariant-loop-at : goal.invariant-loop-at
invariant-loop-at l = record {
  above : l.from ≤ l.at;
  inside : l.at ≤ length l.text;
  table : ∥ IsTable l.nodes l.entry l.classes l.table ∥₁;
  search : ∥ IsSearching l.nodes l.text l.entry l.from l.at l.state None l.table ∥₁;
  ends : AreDead l.nodes l.text l.ends;
}

abbrev pub decreases-loop-at : goal.decreases-loop-at
decreases-loop-at l = length l.text - l.at
