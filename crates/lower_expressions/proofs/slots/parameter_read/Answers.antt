use Rattle.std.proofs.Common.{ℕ, Option, sym, ap, ◌∙◌}
use Rattle.lower_model.specs.Emission.{parameter_read}
use Rattle.lower_expressions.specs.View.{view_layout}
use Rattle.lower_pieces.proofs.Appended.{◌⨟◌, same}
use Rattle.lower_expressions.proofs.slots.parameter_read.Goals as goal

pub lent_read-requires-clause-name : goal.lent_read-requires-clause-name
lent_read-requires-clause-name c = c.args.layout.now.lent c.args.place c.in-Some.name (sym c.lender.ensures ∙ c.in-Some.is)

pub returns-in-Some : goal.returns-in-Some
returns-in-Some c = λ k. c.lent_read.ensures k
    ⨟ same (ap (λ (o : Option ℕ). parameter_read (view_layout c.args.layout.now) o c.args.place c.args.temporary k) (sym c.in-Some.is ∙ c.lender.ensures))

pub returns-in-None : goal.returns-in-None
returns-in-None c = λ k. (rw c.number.ensures at c.emit_all.ensures) k
    ⨟ same (ap (λ (o : Option ℕ). parameter_read (view_layout c.args.layout.now) o c.args.place c.args.temporary k) (sym c.in-None.is ∙ c.lender.ensures))
