use Rattle.std.proofs.Common.{length, ◌-◌, ◌≤◌, None}
use Rattle.ere_match.specs.Crowds.{IsCrowd, IsCrowded}
use Rattle.ere_match.specs.Threads.{IsBest}
use Rattle.ere_match.proofs.crowd.may_cross.Given as goal

abbrev pub invariant-loop-at : goal.invariant-loop-at
invariant-loop-at l = record {
  inside : l.at ≤ length l.text;
  crowd : IsCrowd l.nodes l.entry l.classes l.crowd;
  crowded : IsCrowded l.nodes l.text l.entry l.from l.at l.state l.crowd;
  none : IsBest l.nodes l.text l.entry l.from l.at None;
}

abbrev pub decreases-loop-at : goal.decreases-loop-at
decreases-loop-at l = length l.text - l.at
