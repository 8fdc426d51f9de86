use Rattle.std.proofs.Common.{◌≡◌, ◌≤◌, ℕ, None, Some}
use Rattle.std.specs.Prelude.{slice_get}
use Rattle.ere_match.specs.Rows.{IsLoop, IsSearching, IsTable, SpecRow}
use Rattle.ere_match.proofs.haste.pass_over.Given as goal

abbrev pub invariant-loop-place : goal.invariant-loop-place
invariant-loop-place l = record {
  table : ∥ IsTable l.nodes l.entry l.classes l.table ∥₁;
  is_loop : IsLoop l.table l.classes l.state l.byte l.to;
  counts : (row : SpecRow) → slice_get l.table.rows.items l.state ≡ Some row → l.count ≡ row.count;
  search : (from : ℕ) → from ≤ l.at → ∥ IsSearching l.nodes l.text l.entry from l.at l.state None l.fn.table ∥₁ → ∥ IsSearching l.nodes l.text l.entry from l.place l.state None l.table ∥₁;
}
