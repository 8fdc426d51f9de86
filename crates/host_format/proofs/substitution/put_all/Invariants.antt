use Rattle.std.proofs.Common.{ℕ, None, Option, Some, ◌+◌, ◌-◌, ◌≤◌, length}
use Rattle.std.specs.Prelude.{IfSome}
use Rattle.ere_syntax.specs.Tree.{Tree}
use Rattle.ere_match.specs.Autos.{IsAutoOf}
use Rattle.ere_match.specs.Ends.{AreDeadEnds}
use Rattle.host_format.specs.Expressions.{IsAuto}
use Rattle.host_format.specs.Substitutions.{IsNextPlace}
use Rattle.host_format.proofs.Left.{IsLeft}
use Rattle.host_format.proofs.substitution.put_all.Given as goal

abbrev pub invariant-loop-found : goal.invariant-loop-found
invariant-loop-found l = record {
  inside : l.from ≤ length l.text;
  order : l.from ≤ l.at;
  few : l.count ≤ l.at;
  high : l.at ≤ length l.text + 1;
  auto : IsAuto l.auto';
  ends : AreDeadEnds l.auto' l.text l.ends;
  kept : (t : Tree) → IsAutoOf l.fn.auto t → IsAutoOf l.auto' t;
  place : IfSome l.found (λ m. (l.at ≤ m.0) × (m.0 ≤ m.1) × (m.1 ≤ length l.text));
  left : (t : Tree) → IsAutoOf l.fn.auto t → IsNextPlace t l.text 0 None (Some l.fn.first) → (last : Option ℕ) × IsNextPlace t l.text l.at last l.found × IsLeft t l.by l.text l.fn.out l.out l.from l.at last l.count;
}

abbrev pub decreases-loop-found : goal.decreases-loop-found
decreases-loop-found l = length l.text + 1 - l.at
