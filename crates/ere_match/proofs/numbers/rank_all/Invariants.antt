use Rattle.std.proofs.Common.{◌≡◌, ℕ, ◌<◌, get_or, None}
use Rattle.ere_match.specs.Rows.{rank_of}
use Rattle.ere_match.proofs.numbers.rank_all.Given as goal

abbrev pub invariant-loop-id : goal.invariant-loop-id
invariant-loop-id l = (k : ℕ) → k < l.id → get_or l.ranks k 0 ≡ rank_of l.used (get_or l.set k None)
