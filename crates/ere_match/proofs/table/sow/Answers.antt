use Rattle.std.proofs.Common.{arith, inl, inr, refl, sym, subst, ◌+◌, Bool}
use Rattle.ere_match.specs.Rows.{Begins}
use Rattle.ere_match.proofs.Marks.{seeded}
use Rattle.ere_match.proofs.table.sow.Goals as goal

pub returns-then-found-clause-begins : goal.returns-then-found-clause-begins
returns-then-found-clause-begins c = subst (λ (b : Bool). Begins b c.args.entry c.args.count c.args.set.now c.args.set.now) (sym c.if-found.true) refl

pub returns-clause-begins : goal.returns-clause-begins
returns-clause-begins c = subst (λ (b : Bool). Begins b c.args.entry c.args.count c.args.set.now c.mark.new.set) (sym c.if-found.false) (seeded (c.args.count + 1) c.args.entry c.args.count c.args.set.now c.mark.new.set c.mark.result (c.mark.ensures (c.args.count + 1) (omega arith)))

pub returns-clause-numbers : goal.returns-clause-numbers
returns-clause-numbers c = λ id s h. elim ((c.mark.ensures (c.args.count + 1) (omega arith)).only id s h) [ inl older ↦ (let x = c.requires id s older in omega (arith, x)) | inr is ↦ omega (arith, is.1) ]
