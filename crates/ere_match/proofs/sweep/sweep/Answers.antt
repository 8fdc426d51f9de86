use Rattle.std.proofs.Common.{arith, ◌∙◌, ◌+◌, ◌<◌, ℕ, false}
use Rattle.ere_match.specs.Threads.{Holds}
use Rattle.ere_match.proofs.Marks.{from_on, starts_on, within_then}
use Rattle.ere_match.proofs.Steps.{smaller}
use Rattle.ere_match.proofs.sweep.sweep.Goals as goal

pub loop-added-smaller : goal.loop-added-smaller
loop-added-smaller c =
    let s = c.loop-added in
    let small : (k t : ℕ) → Holds s.set k t → t < c.args.latest + 1 = λ k t h. (let o = s.invariant.starts.at k t h in let le = c.requires.starts o.0 t o.1 in omega (arith, le)) in
    let p = c.pass-added.ensures.passed (c.args.latest + 1) small in
    smaller (c.args.latest + 1) s.set c.pass-added.new.set c.pass-added.result s.added c.loop-added-test.true p.less p.fewer

pub loop-added-preserved : goal.loop-added-preserved
loop-added-preserved c =
    let s = c.loop-added in
    let small : (k t : ℕ) → Holds s.set k t → t < c.args.latest + 1 = λ k t h. (let o = s.invariant.starts.at k t h in let le = c.requires.starts o.0 t o.1 in omega (arith, le)) in
    let p = c.pass-added.ensures.passed (c.args.latest + 1) small in
    record {
      len = p.len ∙ s.invariant.len;
      next_len = c.pass-added.ensures.next_len;
      within = within_then c.args.set.now s.set c.pass-added.new.set s.invariant.within p.within;
      from = from_on c.args.nodes.now c.args.first false c.args.set.now s.set c.pass-added.new.set s.invariant.from p.from;
      starts = starts_on c.args.set.now s.set c.pass-added.new.set s.invariant.starts p.starts;
      closed = p.closed;
      stepped = c.pass-added.ensures.stepped (c.args.latest + 1) small;
    }
