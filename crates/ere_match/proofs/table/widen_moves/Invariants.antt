use Rattle.std.proofs.Common.{◌+◌, ◌-◌, length}
use Rattle.ere_match.specs.Rows.{AddsNoMoves}
use Rattle.ere_match.proofs.table.widen_moves.Given as goal

abbrev pub invariant-loop-moves : goal.invariant-loop-moves
invariant-loop-moves l = AddsNoMoves l.fn.moves.items l.moves.items

abbrev pub decreases-loop-moves : goal.decreases-loop-moves
decreases-loop-moves l = l.count + 1 - length l.moves.items
