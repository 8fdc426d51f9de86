use Rattle.std.proofs.Common.{arith, sym, ◌∙◌, ◌≡◌, ◌-◌, ◌+◌, ◌⊎◌, inl, inr, true, false, ℕ, length, subst}
use Rattle.ere_match.specs.Threads.{IsPassed}
use Rattle.ere_match.proofs.Marks.{passed_none, passed_on, starts_bound}
use Rattle.ere_match.proofs.Sweeps.{IsSweptTo, swept_all, swept_none, swept_on}
use Rattle.ere_match.proofs.sweep.pass.Goals as goal
use Rattle.ere_match.proofs.sweep.pass.Goals.{then-visit, else-visit}

pub loop-done-init : goal.loop-done-init
loop-done-init c = record {
  passed = λ bound small. passed_none c.args.nodes.now c.args.first false bound _ c.args.set.now c.requires.set_len (omega arith);
  swept = λ bound small _. swept_none c.args.nodes.now c.args.byte _ c.args.set.now c.clear.new.set (omega arith) (omega (arith, c.clear.auto.set, c.requires.next_len)) c.clear.ensures;
  next_len = omega (arith, c.clear.auto.set, c.requires.next_len);
}

pub loop-done-preserved : goal.loop-done-preserved
loop-done-preserved c =
    let s = c.loop-done in
    let e : length c.args.nodes.now - 1 - s.done ≡ length c.args.nodes.now - (s.done + 1) = omega arith in
    let or : (c.if-visit.added ≡ true → (s.added ≡ true) ⊎ (c.visit.result ≡ true)) × (c.if-visit.added ≡ false → (s.added ≡ false) × (c.visit.result ≡ false)) = elim c.if-visit.branch [
      | then-visit w ↦ (λ q. inr w.if-visit.true, λ q. absurd (let bad : true ≡ false = sym w.added-is ∙ q in cc))
      | else-visit w ↦ (λ q. inl (sym w.added-is ∙ q), λ q. (sym w.added-is ∙ q, w.if-visit.false))
    ] in
    record {
      passed = λ bound small. subst (λ (n : ℕ). IsPassed c.args.nodes.now c.args.first false bound n c.args.set.now c.visit.new.set c.if-visit.added) e
          (passed_on c.args.nodes.now c.args.first false bound (length c.args.nodes.now - 1 - s.done) (length c.args.nodes.now - s.done) c.args.set.now s.set c.visit.new.set s.added c.visit.result c.if-visit.added (omega arith) (s.invariant.passed bound small) (c.visit.ensures bound (starts_bound c.args.set.now s.set bound (s.invariant.passed bound small).starts small)) or);
      swept = λ bound small q.
          (let both = or.1 q in
          let v = c.visit.ensures bound (starts_bound c.args.set.now s.set bound (s.invariant.passed bound small).starts small) in
          subst (λ (n : ℕ). IsSweptTo c.args.nodes.now c.args.byte n c.visit.new.set c.advance.new.next) e
          (swept_on c.args.nodes.now c.args.byte (length c.args.nodes.now - 1 - s.done) (length c.args.nodes.now - s.done) s.set c.visit.new.set s.next c.advance.new.next (omega arith) v.within (v.quiet both.1) c.advance.ensures (s.invariant.swept bound small both.0)));
      next_len = c.advance.ensures.len ∙ s.invariant.next_len;
    }

pub returns-clause-passed : goal.returns-clause-passed
returns-clause-passed c = λ bound small.
    (let s = c.loop-done in
    let e : length c.args.nodes.now - s.done ≡ 0 = omega (arith, c.loop-done-test.false) in
    subst (λ (n : ℕ). IsPassed c.args.nodes.now c.args.first false bound n c.args.set.now s.set s.added) e (s.invariant.passed bound small))

pub returns-clause-stepped : goal.returns-clause-stepped
returns-clause-stepped c = λ bound small q.
    (let s = c.loop-done in swept_all c.args.nodes.now c.args.byte (length c.args.nodes.now - s.done) s.set s.next (omega (arith, c.loop-done-test.false)) (s.invariant.swept bound small q))
