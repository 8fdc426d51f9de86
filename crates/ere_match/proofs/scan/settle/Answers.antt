use Rattle.std.proofs.Common.{sym, subst, ℕ, Option, length, nat_eq}
use Rattle.ere_match.specs.Threads.{IsSettled}
use Rattle.ere_match.proofs.Scans.{place_is, threads_closed, settled}
use Rattle.ere_match.proofs.scan.settle.Goals as goal

pub returns-clause-starts : goal.returns-clause-starts
returns-clause-starts c = λ k s h. (let o = c.close.ensures.starts.at k s h in c.seed.ensures.starts o.0 s o.1)

pub returns-clause-settled : goal.returns-clause-settled
returns-clause-settled c = λ from above inside th b.
    (let seeded = c.seed.ensures.threads c.args.nodes.now c.args.text.now from above th b in
    let closed = threads_closed c.args.nodes.now c.args.text.now c.args.entry from c.args.at _ _ (place_is c.args.text.now c.args.at).near c.seed.new.set c.close.new.set c.args.best seeded c.close.ensures in
    subst (λ (o : Option (ℕ × ℕ)). IsSettled c.args.nodes.now c.args.text.now c.args.entry from c.args.at (nat_eq c.args.at 0) (nat_eq c.args.at (length c.args.text.now)) c.close.new.set o) (sym c.better.ensures)
    (settled c.args.nodes.now c.args.text.now c.args.entry from c.args.at _ _ (place_is c.args.text.now c.args.at) c.close.new.set c.args.best c.accepted.result inside closed c.close.ensures.closed c.accepted.ensures b))
