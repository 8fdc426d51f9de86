use Rattle.std.proofs.Common.{◌≡◌, ℕ, Bool, IsTrue, All, length}
use Rattle.awk_grammar.specs.Least.{IsClosed}
use Rattle.awk_resolve.specs.ViewFound.{IsIn, left}
use Rattle.awk_resolve.proofs.Waiting.{IsFollowed}
use Rattle.awk_resolve.proofs.closure.closure.Given as goal

abbrev pub invariant-loop-n : goal.invariant-loop-n
invariant-loop-n l = record {
  length : length l.found.marked.items ≡ l.count;
  members : All (IsIn l.found) l.members;
  within : (other : ℕ → Bool) → IsClosed other l.members l.pairs → (n : ℕ) → IsIn l.found n → IsTrue (other n);
  waiting : All (IsIn l.found) l.found.waiting.items;
  followed : IsFollowed l.found l.pairs;
}

-- each turn takes one that waits, or marks one
abbrev pub decreases-loop-n : goal.decreases-loop-n
decreases-loop-n l = left l.found
