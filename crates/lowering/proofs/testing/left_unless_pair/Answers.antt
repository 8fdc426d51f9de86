use Rattle.std.proofs.Common.{◌≡◌, Option, None, ap, sym, ◌∙◌, subst}
use Rattle.std.specs.Option.{option_map}
use Rattle.mid_program.specs.ViewCode.{view}
use Rattle.lower_model.specs.Quick.{Pair, pair_in}
use Rattle.lower_model.specs.Statements.{left_unless_pair}
use Rattle.lower_pieces.specs.Emits.{Emits}
use Rattle.lower_expressions.specs.View.{view_layout}
use Rattle.lower_quick.specs.View.{view_counted, view_pair}
use Rattle.lower_pieces.proofs.Appended.{◌⨟◌, same}
use Rattle.lowering.proofs.QuickNames.{counted_fits, pair_fits}
use Rattle.lowering.proofs.Ways.{no_pair}
use Rattle.lowering.proofs.testing.left_unless_pair.Goals as goal

pub pair_tested-requires-clause-pair : goal.pair_tested-requires-clause-pair
pair_tested-requires-clause-pair c = pair_fits (view_layout c.args.layout.now) (view c.args.test.now) (view_pair c.in-Some.pair) 0 0 c.args.exit (sym c.in-Some.ensures) c.requires.fit.0

pub returns-in-Some : goal.returns-in-Some
returns-in-Some c =
    subst (λ (o : Option Pair). Emits c.args.out.now c.pair_tested.new.out (left_unless_pair (view_layout c.args.layout.now) o (view c.args.test.now) c.args.exit c.args.label)) c.in-Some.ensures
    c.pair_tested.ensures

pub counted_tested-requires-clause-name : goal.counted_tested-requires-clause-name
counted_tested-requires-clause-name c = counted_fits (view_layout c.args.layout.now) (view c.args.test.now) (view_counted c.in-Some-counted_in.counted) 0 0 c.args.exit (sym c.in-Some-counted_in.ensures) c.requires.fit.0

pub returns-in-Some-counted_in : goal.returns-in-Some-counted_in
returns-in-Some-counted_in c =
    let none : None ≡ pair_in (view c.args.test.now) = sym (ap (option_map view_pair) c.in_default.is) ∙ c.pair_in.ensures in
    λ k. c.counted_tested.ensures k ⨟ same (no_pair (view_layout c.args.layout.now) _ (view c.args.test.now) c.args.exit c.args.label k none c.in-Some-counted_in.ensures)

pub returns-in-None : goal.returns-in-None
returns-in-None c =
    let none : None ≡ pair_in (view c.args.test.now) = sym (ap (option_map view_pair) c.in_default.is) ∙ c.pair_in.ensures in
    λ k. c.test_left.ensures k ⨟ same (no_pair (view_layout c.args.layout.now) _ (view c.args.test.now) c.args.exit c.args.label k none c.in-None.ensures)
