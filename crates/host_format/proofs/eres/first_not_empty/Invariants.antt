use Rattle.std.proofs.Common.{◌-◌, ◌≤◌, length}
use Rattle.ere_syntax.specs.Tree.{Tree}
use Rattle.ere_match.specs.Autos.{IsAutoOf}
use Rattle.ere_match.specs.Ends.{AreDeadEnds}
use Rattle.host_format.specs.Expressions.{IsAuto}
use Rattle.host_format.proofs.Firsts.{NoneFrom}
use Rattle.host_format.proofs.eres.first_not_empty.Given as goal

abbrev pub invariant-loop-start : goal.invariant-loop-start
invariant-loop-start l = record {
  low : l.fn.from ≤ l.at;
  high : l.at ≤ length l.text;
  auto : IsAuto l.auto';
  ends : AreDeadEnds l.auto' l.text l.ends;
  kept : (t : Tree) → IsAutoOf l.fn.auto t → IsAutoOf l.auto' t;
  none : (t : Tree) → IsAutoOf l.fn.auto t → NoneFrom t l.text l.fn.from l.at;
}

abbrev pub decreases-loop-start : goal.decreases-loop-start
decreases-loop-start l = length l.text - l.at
