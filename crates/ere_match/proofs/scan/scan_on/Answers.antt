use Rattle.std.proofs.Common.{rules, arith, sym, subst, ap, ◌∙◌, ◌≡◌, ◌+◌, ℕ, List, Option, length}
use Rattle.ere_match.specs.Threads.{AreThreads, Holds, IsBest}
use Rattle.ere_match.proofs.Scans.{best_done}
use Rattle.ere_match.proofs.scan.scan_on.Goals as goal

pub returns-in-Some : goal.returns-in-Some
returns-in-Some c = λ from above th0 b0.
    (let s = c.loop-place in
    let now = s.invariant.led from above th0 b0 in
    let t = subst (λ (o : Option (ℕ × ℕ)). AreThreads c.args.nodes.now c.args.text.now c.args.entry from (s.place + 1) (s.place + 1) c.cross-best.new.next o) c.in-Some.is (c.cross-best.ensures.threads from (omega (arith, above)) now.0 now.1) in
    let b = subst (λ (o : Option (ℕ × ℕ)). IsBest c.args.nodes.now c.args.text.now c.args.entry from (s.place + 1) o) c.in-Some.is (c.cross-best.ensures.best from (omega (arith, above)) now.0 now.1) in
    subst (λ (o : Option (ℕ × ℕ)). IsBest c.args.nodes.now c.args.text.now c.args.entry from (length c.args.text.now + 1) o) (sym c.in-Some.is)
    (best_done c.args.nodes.now c.args.text.now c.args.entry from s.place c.cross-best.new.next _ (s.place + 1) (omega arith) t (λ j n _ r. c.is_empty.ensures (search rules) r.id n r.holds) b (omega arith)))

pub loop-place-preserved : goal.loop-place-preserved
loop-place-preserved c =
    let s = c.loop-place in
    record {
      led = λ from above th0 b0.
          (let now = s.invariant.led from above th0 b0 in
          (subst (λ (u : List (Option ℕ)). AreThreads c.args.nodes.now c.args.text.now c.args.entry from (s.place + 1) (s.place + 1) u c.cross-best.result) (sym c.copy_from_slice.ensures.after) (c.cross-best.ensures.threads from (omega (arith, above)) now.0 now.1), c.cross-best.ensures.best from (omega (arith, above)) now.0 now.1));
      starts = λ k n h.
          (let x = c.cross-best.ensures.starts k n (subst (λ (u : List (Option ℕ)). Holds u k n) c.copy_from_slice.ensures.after h) in omega (arith, x));
      set_len = ap length c.copy_from_slice.ensures.after ∙ c.cross-best.ensures.next_len;
      next_len = c.cross-best.ensures.next_len;
    }

pub returns : goal.returns
returns c = λ from above th0 b0.
    (let s = c.loop-place in
    let now = s.invariant.led from above th0 b0 in
    let e : s.place ≡ length c.args.text.now = omega (arith, c.loop-place-test.false, s.auto.place-end, c.requires.inside) in
    let th = subst (λ (n : ℕ). AreThreads c.args.nodes.now c.args.text.now c.args.entry from n n s.set s.best) e now.0 in
    let b = subst (λ (n : ℕ). IsBest c.args.nodes.now c.args.text.now c.args.entry from n s.best) e now.1 in
    (c.settle.ensures.settled from (omega (arith, above, c.requires.inside)) (omega arith) th b).best)
