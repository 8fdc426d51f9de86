use Rattle.std.proofs.Common.{◌-◌}
use Rattle.wasm_types.specs.Syntax.{Instructions}
use Rattle.lower_pieces.proofs.Appended.{Follows}
use Rattle.lowering.specs.Holding.{held_count, held_emptied}
use Rattle.lowering.proofs.holding.held_emptied.Given as goal

abbrev pub invariant-loop-place : goal.invariant-loop-place
invariant-loop-place l =
    (k : Instructions) → Follows l.out (held_emptied l.held l.fn.bases l.place (l.count - l.place) k) l.fn.out (held_emptied l.held l.fn.bases 0 (held_count l.held l.fn.bases) k)
