use Rattle.std.proofs.Common.{Option, sym, subst}
use Rattle.mid_program.specs.ViewCode.{view}
use Rattle.lower_model.specs.Quick.{Within}
use Rattle.lower_model.specs.Statements.{left_unless}
use Rattle.lower_pieces.specs.Emits.{Emits}
use Rattle.lower_expressions.specs.View.{view_layout}
use Rattle.lower_quick.specs.View.{view_within}
use Rattle.lowering.proofs.QuickNames.{within_fits}
use Rattle.lowering.proofs.testing.left_unless.Goals as goal

pub within_tested-requires-clause-name : goal.within_tested-requires-clause-name
within_tested-requires-clause-name c = within_fits (view_layout c.args.layout.now) (view c.args.test.now) (view_within c.in-Some.within) 0 0 c.args.exit (sym c.in-Some.ensures) c.requires.fit.0

pub returns-in-Some : goal.returns-in-Some
returns-in-Some c =
    subst (λ (o : Option Within). Emits c.args.out.now c.within_tested.new.out (left_unless (view_layout c.args.layout.now) o (view c.args.test.now) c.args.exit c.args.label)) c.in-Some.ensures
    c.within_tested.ensures

pub returns-in-None : goal.returns-in-None
returns-in-None c =
    subst (λ (o : Option Within). Emits c.args.out.now c.left_unless_pair.new.out (left_unless (view_layout c.args.layout.now) o (view c.args.test.now) c.args.exit c.args.label)) c.in-None.ensures
    c.left_unless_pair.ensures
