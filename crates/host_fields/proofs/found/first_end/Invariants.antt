use Rattle.std.proofs.Common.{◌≡◌, ◌<◌, ℕ, get_or, true}
use Rattle.host_fields.specs.Ends.{is_end}
use Rattle.host_fields.proofs.found.first_end.Given as goal

abbrev pub invariant-loop-at : goal.invariant-loop-at
invariant-loop-at l = (k : ℕ) → k < l.at → is_end l.by l.newlines (get_or l.text k 0) ≡ true → ⊥
