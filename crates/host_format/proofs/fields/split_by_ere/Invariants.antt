use Rattle.std.proofs.Common.{◌-◌, ◌≤◌, length}
use Rattle.ere_syntax.specs.Tree.{Tree}
use Rattle.ere_match.specs.Autos.{IsAutoOf}
use Rattle.ere_match.specs.Ends.{AreDeadEnds}
use Rattle.host_format.specs.Expressions.{IsAuto}
use Rattle.host_format.proofs.Opens.{IsCut}
use Rattle.host_format.proofs.fields.split_by_ere.Given as goal

abbrev pub invariant-loop-ends : goal.invariant-loop-ends
invariant-loop-ends l = record {
  inside : l.from ≤ length l.text;
  auto : IsAuto l.auto';
  ends : AreDeadEnds l.auto' l.text l.ends;
  kept : (t : Tree) → IsAutoOf l.fn.auto t → IsAutoOf l.auto' t;
  cut : (t : Tree) → IsAutoOf l.fn.auto t → IsCut t l.newlines l.text l.spans.items l.from;
}

abbrev pub decreases-loop-ends : goal.decreases-loop-ends
decreases-loop-ends l = length l.text - l.from
