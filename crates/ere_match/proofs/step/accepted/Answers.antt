use Rattle.std.proofs.Common.{arith}
use Rattle.ere_match.proofs.step.accepted.Goals as goal

pub bounds-nodes-id : goal.bounds-nodes-id
bounds-nodes-id c = omega arith

pub offset_bounds-nodes-id : goal.offset_bounds-nodes-id
offset_bounds-nodes-id c = omega arith
