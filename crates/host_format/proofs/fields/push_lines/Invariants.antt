use Rattle.std.proofs.Common.{ℕ, ◌-◌, ◌≤◌, List, Option, true}
use Rattle.host_format.specs.Between.{IsOpen}
use Rattle.host_format.proofs.Opens.{Agrees}
use Rattle.host_format.proofs.fields.push_lines.Given as goal

abbrev pub invariant-loop-at : goal.invariant-loop-at
invariant-loop-at l = record {
  low : l.from ≤ l.line;
  high : l.line ≤ l.to;
  lines : (end : ℕ → Option ℕ) (total : List (List ℕ)) → Agrees end true l.text l.from l.to → IsOpen end l.text l.fn.spans.items l.from total → IsOpen end l.text l.spans.items l.line total;
}

abbrev pub decreases-loop-at : goal.decreases-loop-at
decreases-loop-at l = l.to - l.line
