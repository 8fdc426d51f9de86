use Rattle.std.proofs.Common.{◌≡◌, ℕ, ◌++◌, length, drop}
use Rattle.awk_resolve.specs.Waiting.{given_for, numbers_at}
use Rattle.awk_resolve.proofs.closure.givers_of.Given as goal

abbrev pub invariant-loop-given : goal.invariant-loop-given
invariant-loop-given l = record {
  length : length l.givers.items ≡ l.count;
  rest : (n : ℕ) → numbers_at l.givers.items n ++ given_for (drop l.given-index l.pairs) n ≡ given_for l.pairs n;
}
