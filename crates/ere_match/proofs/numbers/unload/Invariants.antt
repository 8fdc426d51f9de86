use Rattle.std.proofs.Common.{◌≡◌, ℕ, ◌<◌, get_or, None}
use Rattle.ere_match.specs.Rows.{start_of_rank}
use Rattle.ere_match.proofs.numbers.unload.Given as goal

abbrev pub invariant-loop-id : goal.invariant-loop-id
invariant-loop-id l = (k : ℕ) → k < l.id → get_or l.set k None ≡ start_of_rank l.starts (get_or l.ranks k 0)
