use Rattle.std.proofs.Common.{◌+◌, ◌-◌, ℕ, length}
use Rattle.ere_match.specs.Ends.{IsNoted}
use Rattle.ere_match.proofs.notes.widen_places.Given as goal

abbrev pub invariant-loop-alloc : goal.invariant-loop-alloc
invariant-loop-alloc l = (step place id : ℕ) → IsNoted step l.marks.items place id → IsNoted step l.fn.marks.items place id

abbrev pub decreases-loop-alloc : goal.decreases-loop-alloc
decreases-loop-alloc l = l.number + 1 - length l.marks.items
