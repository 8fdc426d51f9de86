use Rattle.std.proofs.Common.{◌-◌}
use Rattle.wasm_types.specs.Syntax.{Instructions}
use Rattle.lower_pieces.proofs.Appended.{Follows}
use Rattle.lowering.specs.Holding.{held_count, held_swept}
use Rattle.lowering.proofs.holding.held_swept.Given as goal

abbrev pub invariant-loop-place : goal.invariant-loop-place
invariant-loop-place l =
    (k : Instructions) →
    Follows l.out (held_swept l.held l.fn.layout.bases.now l.place (l.count - l.place) k) l.fn.out (held_swept l.held l.fn.layout.bases.now 0 (held_count l.held l.fn.layout.bases.now) k)
