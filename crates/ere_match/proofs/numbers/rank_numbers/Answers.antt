use Rattle.std.proofs.Common.{arith, ap, Vec, Global, ℕ, ◌+◌, set}
use Rattle.ere_match.specs.Rows.{IsRankedTo}
use Rattle.ere_match.proofs.Ranks.{at_equals, ranked_skip, ranked_on}
use Rattle.ere_match.proofs.numbers.rank_numbers.Goals as goal
use Rattle.ere_match.proofs.numbers.rank_numbers.Goals.{then-used-number-eq1+in_ok-push, else-used-number-eq1}

pub loop-number-preserved : goal.loop-number-preserved
loop-number-preserved c =
    let s = c.loop-number in
    elim c.if-used-number-eq1.branch [
      | then-used-number-eq1+in_ok-push w ↦ at_equals (IsRankedTo (s.number + 1) c.args.sources.now.items c.args.used.now) (set s.used s.number (s.count + 1)) c.if-used-number-eq1.used w.push.new.self.items c.if-used-number-eq1.sources.items (s.count + 1) c.if-used-number-eq1.count w.used-is (ap (λ (v : Vec ℕ Global). v.items) w.sources-is) w.count-is
          (ranked_on s.number c.args.sources.now.items c.args.used.now s.used s.sources.items w.push.new.self.items s.count c.loop-number-test.true w.in_ok-push.ensures.items s.invariant)
      | else-used-number-eq1 w ↦ at_equals (IsRankedTo (s.number + 1) c.args.sources.now.items c.args.used.now) (set s.used s.number 0) c.if-used-number-eq1.used s.sources.items c.if-used-number-eq1.sources.items s.count c.if-used-number-eq1.count w.used-is (ap (λ (v : Vec ℕ Global). v.items) w.sources-is) w.count-is
          (ranked_skip s.number c.args.sources.now.items c.args.used.now s.used s.sources.items s.count w.if-used-number-eq1.false s.invariant)
    ]

pub bounds-used-number : goal.bounds-used-number
bounds-used-number c = omega arith

pub overflow_cast-number : goal.overflow_cast-number
overflow_cast-number c = omega arith

pub bounds-used-number-else-used-number-eq1 : goal.bounds-used-number-else-used-number-eq1
bounds-used-number-else-used-number-eq1 c = omega arith
