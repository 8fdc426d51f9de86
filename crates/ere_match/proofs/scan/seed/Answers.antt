use Rattle.std.proofs.Common.{arith, inl, inr, sym, subst, ◌+◌, ℕ, Option}
use Rattle.ere_match.specs.Threads.{AreThreads, IsBest}
use Rattle.ere_match.proofs.Marks.{seeded}
use Rattle.ere_match.proofs.Scans.{threads_seed, threads_stay}
use Rattle.ere_match.proofs.scan.seed.Goals as goal

pub returns-in-None-clause-starts : goal.returns-in-None-clause-starts
returns-in-None-clause-starts c = λ k s h. elim ((c.mark.ensures (c.args.at + 1) (omega arith)).only k s h) [ inl older ↦ c.requires k s older | inr is ↦ omega (arith, is.1) ]

pub returns-in-None-clause-threads : goal.returns-in-None-clause-threads
returns-in-None-clause-threads c = λ nodes text from above th b.
    (let t = subst (λ (o : Option (ℕ × ℕ)). AreThreads nodes text c.args.entry from c.args.at c.args.at c.args.set.now o) c.in-None.is th in
    subst (λ (o : Option (ℕ × ℕ)). AreThreads nodes text c.args.entry from c.args.at (c.args.at + 1) c.mark.new.set o) (sym c.in-None.is) (threads_seed nodes text c.args.entry from c.args.at c.args.set.now c.mark.new.set above t (seeded (c.args.at + 1) c.args.entry c.args.at c.args.set.now c.mark.new.set c.mark.result (c.mark.ensures (c.args.at + 1) (omega arith)))))

pub returns-in-Some-clause-threads : goal.returns-in-Some-clause-threads
returns-in-Some-clause-threads c = λ nodes text from above th b.
    (let t = subst (λ (o : Option (ℕ × ℕ)). AreThreads nodes text c.args.entry from c.args.at c.args.at c.args.set.now o) c.in-Some.is th in
    let d = subst (λ (o : Option (ℕ × ℕ)). IsBest nodes text c.args.entry from c.args.at o) c.in-Some.is b in
    subst (λ (o : Option (ℕ × ℕ)). AreThreads nodes text c.args.entry from c.args.at (c.args.at + 1) c.args.set.now o) (sym c.in-Some.is) (threads_stay nodes text c.args.entry from c.args.at c.args.set.now c.in-Some.field-0 t d))
