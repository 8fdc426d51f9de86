use Rattle.std.proofs.Common.{rules, arith, sym, ◌∙◌, ◌≡◌, ◌-◌, ◌+◌, ◌⊎◌, inl, inr, true, false, ℕ, length, subst}
use Rattle.ere_match.specs.Threads.{IsPassed}
use Rattle.ere_match.proofs.Marks.{passed_none, passed_on, starts_bound}
use Rattle.ere_match.proofs.threads.pass.Goals as goal
use Rattle.ere_match.proofs.threads.pass.Goals.{then-visit, else-visit}

pub loop-done-init : goal.loop-done-init
loop-done-init c = λ bound small. passed_none c.args.nodes.now c.args.first c.args.last bound _ c.args.set.now (search rules) (omega arith)

pub loop-done-preserved : goal.loop-done-preserved
loop-done-preserved c = λ bound small.
    (let s = c.loop-done in
    let inv = s.invariant bound small in
    let e : length c.args.nodes.now - 1 - s.done ≡ length c.args.nodes.now - (s.done + 1) = omega arith in
    let or : (c.if-visit.added ≡ true → (s.added ≡ true) ⊎ (c.visit.result ≡ true)) × (c.if-visit.added ≡ false → (s.added ≡ false) × (c.visit.result ≡ false)) = elim c.if-visit.branch [
      | then-visit w ↦ (λ q. inr w.if-visit.true, λ q. absurd (let bad : true ≡ false = sym w.added-is ∙ q in cc))
      | else-visit w ↦ (λ q. inl (sym w.added-is ∙ q), λ q. (sym w.added-is ∙ q, w.if-visit.false))
    ] in
    subst (λ (n : ℕ). IsPassed c.args.nodes.now c.args.first c.args.last bound n c.args.set.now c.visit.new.set c.if-visit.added) e
    (passed_on c.args.nodes.now c.args.first c.args.last bound (length c.args.nodes.now - 1 - s.done) (length c.args.nodes.now - s.done) c.args.set.now s.set c.visit.new.set s.added c.visit.result c.if-visit.added (omega arith) inv (c.visit.ensures bound (starts_bound c.args.set.now s.set bound inv.starts small)) or))

pub returns : goal.returns
returns c = λ bound small.
    (let s = c.loop-done in
    let e : length c.args.nodes.now - s.done ≡ 0 = omega (arith, c.loop-done-test.false) in
    subst (λ (n : ℕ). IsPassed c.args.nodes.now c.args.first c.args.last bound n c.args.set.now s.set s.added) e (s.invariant bound small))
