use Rattle.std.proofs.Common.{◌≡◌, ◌<◌, ◌≤◌, ℕ, get_or}
use Rattle.std.specs.Prelude.{false}
use Rattle.ere_match.proofs.lead.find_marked.Given as goal

abbrev pub invariant-loop-place : goal.invariant-loop-place
invariant-loop-place l = (k : ℕ) → l.at ≤ k → k < l.place → get_or l.marks (get_or l.text k 0) false ≡ false
