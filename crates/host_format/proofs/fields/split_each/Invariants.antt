use Rattle.std.proofs.Common.{drop}
use Rattle.host_format.specs.Spans.{IsSoFar}
use Rattle.host_format.proofs.Pieces.{singles}
use Rattle.host_format.proofs.fields.split_each.Given as goal

abbrev pub invariant-loop-at : goal.invariant-loop-at
invariant-loop-at l = IsSoFar l.text l.spans.items (singles (drop l.at l.text)) (singles l.text)
