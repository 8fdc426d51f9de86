use Rattle.std.proofs.Common.{◌≡◌, ℕ, ◌<◌, ◌≤◌, get_or, length}
use Rattle.ere_match.specs.Rows.{source, with_new}
use Rattle.ere_match.proofs.advance.shift.Given as goal

abbrev pub invariant-loop-number : goal.invariant-loop-number
invariant-loop-number l = record {
  done : (k : ℕ) → k < l.number → get_or l.starts k 0 ≡ with_new (λ n. get_or l.fn.starts n 0) l.count l.at (source l.sources l.to k);
  rest : (k : ℕ) → l.number ≤ k → get_or l.starts k 0 ≡ with_new (λ n. get_or l.fn.starts n 0) l.count l.at k;
  len : length l.starts ≡ length l.fn.starts;
}
