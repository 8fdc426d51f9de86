use Rattle.std.proofs.Common.{◌≡◌, ◌<◌, ◌&&◌, ℕ, false}
use Rattle.awk_resolve.specs.Marked.{is_marked}
use Rattle.awk_resolve.proofs.kinds.is_any_in_both.Given as goal

abbrev pub invariant-loop-number : goal.invariant-loop-number
invariant-loop-number l = (n : ℕ) → n < l.number → (is_marked l.first n && is_marked l.second n) ≡ false
