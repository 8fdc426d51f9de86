use Rattle.std.proofs.Common.{◌≡◌, ◌-◌, ℕ, get_or, length}
use Rattle.std.specs.Prelude.{false}
use Rattle.ere_match.proofs.notes.widen_marks.Given as goal

abbrev pub invariant-loop-marks : goal.invariant-loop-marks
invariant-loop-marks l = (id : ℕ) → get_or l.marks.items id false ≡ get_or l.fn.marks.items id false

abbrev pub decreases-loop-marks : goal.decreases-loop-marks
decreases-loop-marks l = l.count - length l.marks.items
