use Rattle.std.proofs.Common.{arith, refl, sym, subst, ◌+◌, ℕ, Option, false, get_or, nat_eq}
use Rattle.std.proofs.lemmas.Option.{slice_get-get_or}
use Rattle.ere_match.specs.Threads.{AreThreads, IsBest}
use Rattle.ere_match.proofs.Scans.{place_in, settled, threads_closed, threads_step}
use Rattle.ere_match.proofs.scan.cross.Goals as goal

pub returns-clause-starts : goal.returns-clause-starts
returns-clause-starts c = λ k s h. (let o = c.sweep.ensures.stepped.only k s h in let p = c.sweep.ensures.closure.starts.at o.0 s o.1 in c.seed.ensures.starts p.0 s p.1)

pub returns-clause-threads : goal.returns-clause-threads
returns-clause-threads c = λ from above th b.
    (let place = place_in c.args.text.now c.args.at (nat_eq c.args.at 0) refl c.requires.inside in
    let seeded = c.seed.ensures.threads c.args.nodes.now c.args.text.now from above th b in
    let closed = threads_closed c.args.nodes.now c.args.text.now c.args.entry from c.args.at (nat_eq c.args.at 0) false place.near c.seed.new.set c.sweep.new.set c.args.best seeded c.sweep.ensures.closure in
    let h = settled c.args.nodes.now c.args.text.now c.args.entry from c.args.at (nat_eq c.args.at 0) false place c.sweep.new.set c.args.best c.accepted.result (omega (arith, c.requires.inside)) closed c.sweep.ensures.closure.closed c.accepted.ensures b in
    subst (λ (o : Option (ℕ × ℕ)). AreThreads c.args.nodes.now c.args.text.now c.args.entry from (c.args.at + 1) (c.args.at + 1) c.sweep.new.next o) (sym c.better.ensures)
    (threads_step c.args.nodes.now c.args.text.now c.args.entry from c.args.at (nat_eq c.args.at 0) false place c.sweep.new.set c.sweep.new.next _ (get_or c.args.text.now c.args.at 0) (slice_get-get_or c.args.text.now c.args.at 0 c.requires.inside) h c.sweep.ensures.stepped))

pub returns-clause-best : goal.returns-clause-best
returns-clause-best c = λ from above th b.
    (let place = place_in c.args.text.now c.args.at (nat_eq c.args.at 0) refl c.requires.inside in
    let seeded = c.seed.ensures.threads c.args.nodes.now c.args.text.now from above th b in
    let closed = threads_closed c.args.nodes.now c.args.text.now c.args.entry from c.args.at (nat_eq c.args.at 0) false place.near c.seed.new.set c.sweep.new.set c.args.best seeded c.sweep.ensures.closure in
    let h = settled c.args.nodes.now c.args.text.now c.args.entry from c.args.at (nat_eq c.args.at 0) false place c.sweep.new.set c.args.best c.accepted.result (omega (arith, c.requires.inside)) closed c.sweep.ensures.closure.closed c.accepted.ensures b in
    subst (λ (o : Option (ℕ × ℕ)). IsBest c.args.nodes.now c.args.text.now c.args.entry from (c.args.at + 1) o) (sym c.better.ensures) h.best)
