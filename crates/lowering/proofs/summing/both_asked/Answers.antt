use Rattle.std.proofs.Common.{rules, Option, ℤ, subst}
use Rattle.std.proofs.lemmas.Int.{to_z-of_z}
use Rattle.std.specs.Int.{w64}
use Rattle.std.specs.Prelude.{FitsSigned}
use Rattle.lower_model.specs.Statements.{both_asked}
use Rattle.lower_pieces.specs.Emits.{Emits}
use Rattle.lower_expressions.specs.View.{view_layout}
use Rattle.lower_quick.specs.View.{view_update}
use Rattle.lowering.proofs.summing.both_asked.Goals as goal

pub returns-in-Some : goal.returns-in-Some
returns-in-Some c =
    let fits : FitsSigned w64 c.in-Some.number = search rules in
    subst (λ (o : Option ℤ). Emits c.args.out.now c.field_asked.new.out (both_asked (view_layout c.args.layout.now) o (view_update c.args.update) c.args.exit)) c.in-Some.ensures
    (rw (to_z-of_z w64 c.in-Some.number fits) at c.field_asked.ensures)

pub returns-in-None : goal.returns-in-None
returns-in-None c =
    subst (λ (o : Option ℤ). Emits c.args.out.now c.added_asked.new.out (both_asked (view_layout c.args.layout.now) o (view_update c.args.update) c.args.exit)) c.in-None.ensures
    c.added_asked.ensures
