use Rattle.std.proofs.Common.{ℕ, Option, sym, ap, ◌∙◌}
use Rattle.lower_model.specs.Statements.{parameter_found}
use Rattle.lower_expressions.specs.View.{view_layout}
use Rattle.lower_pieces.proofs.Appended.{◌⨟◌, same}
use Rattle.lowering.proofs.summing.parameter_found.Goals as goal

pub lender_found-requires-clause-name : goal.lender_found-requires-clause-name
lender_found-requires-clause-name c = c.args.layout.now.lent c.args.place c.in-Some.name (sym c.lender.ensures ∙ c.in-Some.is)

pub returns-in-Some : goal.returns-in-Some
returns-in-Some c = λ k. c.lender_found.ensures k
    ⨟ same (ap (λ (o : Option ℕ). parameter_found (view_layout c.args.layout.now) o c.args.temporary c.args.exit k) (sym c.in-Some.is ∙ c.lender.ensures))

pub returns-in-None : goal.returns-in-None
returns-in-None c = λ k. (rw c.number-local.ensures at c.emit_all.ensures) k
    ⨟ same (ap (λ (o : Option ℕ). parameter_found (view_layout c.args.layout.now) o c.args.temporary c.args.exit k) (sym c.in-None.is ∙ c.lender.ensures))
