use Rattle.std.proofs.Common.{◌≡◌, ◌<◌, ◌≤◌, ℕ, true, get_or}
use Rattle.std.specs.Prelude.{false}
use Rattle.ere_match.specs.Ends.{MarksOnly}
use Rattle.ere_match.proofs.notes.mark_all.Given as goal

abbrev pub invariant-loop-id : goal.invariant-loop-id
invariant-loop-id l = record {
  all : l.all ≡ true → (id : ℕ) → id < l.id → 0 < get_or l.ranks id 0 → get_or l.fn.marks id false ≡ true;
  only : MarksOnly l.ranks l.fn.marks l.marks;
  rest : (id : ℕ) → l.id ≤ id → get_or l.marks id false ≡ get_or l.fn.marks id false;
}
