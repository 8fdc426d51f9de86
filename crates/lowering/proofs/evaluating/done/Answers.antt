use Rattle.std.proofs.Common.{◌≡◌, None, ap, sym, ◌∙◌, arith}
use Rattle.std.specs.Option.{option_map}
use Rattle.mid_program.specs.ViewCode.{view}
use Rattle.lower_model.specs.Quick.{sum_in, tally_in, update_in}
use Rattle.lower_expressions.specs.View.{view_layout}
use Rattle.lower_quick.specs.View.{view_remainder, view_sum, view_tally, view_update}
use Rattle.lower_pieces.proofs.Appended.{◌⨟◌, same}
use Rattle.lowering.proofs.QuickNames.{remainder_deeper, remainder_fits, sum_fits, tally_fits, update_fits_all}
use Rattle.lowering.proofs.Ways.{last_way, sum_way, tally_way, update_way}
use Rattle.lowering.proofs.evaluating.done.Goals as goal

pub sum_done-requires-clause-sum : goal.sum_done-requires-clause-sum
sum_done-requires-clause-sum c = sum_fits (view_layout c.args.layout.now) (view c.args.code.now) (view_sum c.in-Some.sum) 0 0 c.args.exit (sym c.in-Some.ensures) c.requires.fit

pub returns-in-Some : goal.returns-in-Some
returns-in-Some c = λ k. c.sum_done.ensures k ⨟ same (sum_way (view_layout c.args.layout.now) (view c.args.code.now) c.args.exit k _ c.in-Some.ensures)

pub updated-requires-clause-target : goal.updated-requires-clause-target
updated-requires-clause-target c = (update_fits_all (view_layout c.args.layout.now) (view c.args.code.now) (view_update c.in-Some-update_in.update) 0 0 c.args.exit (sym c.in-Some-update_in.ensures) c.requires.fit).0

pub updated-requires-clause-name : goal.updated-requires-clause-name
updated-requires-clause-name c = (update_fits_all (view_layout c.args.layout.now) (view c.args.code.now) (view_update c.in-Some-update_in.update) 0 0 c.args.exit (sym c.in-Some-update_in.ensures) c.requires.fit).1

pub updated-requires-clause-fit : goal.updated-requires-clause-fit
updated-requires-clause-fit c = (update_fits_all (view_layout c.args.layout.now) (view c.args.code.now) (view_update c.in-Some-update_in.update) 0 0 c.args.exit (sym c.in-Some-update_in.ensures) c.requires.fit).2

pub returns-in-Some-update_in : goal.returns-in-Some-update_in
returns-in-Some-update_in c =
    let no_sum : None ≡ sum_in (view c.args.code.now) = sym (ap (option_map view_sum) c.in_default.is) ∙ c.sum_in.ensures in
    λ k. c.updated.ensures k ⨟ same (update_way (view_layout c.args.layout.now) (view c.args.code.now) c.args.exit k _ no_sum c.in-Some-update_in.ensures)

pub tallied-requires-clause-fit : goal.tallied-requires-clause-fit
tallied-requires-clause-fit c = tally_fits (view_layout c.args.layout.now) (view c.args.code.now) (view_tally c.in-Some-tally_in.tally) c.args.exit (sym c.in-Some-tally_in.ensures) c.requires.fit

pub returns-in-Some-tally_in : goal.returns-in-Some-tally_in
returns-in-Some-tally_in c =
    let no_sum : None ≡ sum_in (view c.args.code.now) = sym (ap (option_map view_sum) c.in_default.is) ∙ c.sum_in.ensures in
    let no_update : None ≡ update_in (view c.args.code.now) = sym (ap (option_map view_update) c.in_default-update_in.is) ∙ c.update_in.ensures in
    λ k. c.tallied.ensures k ⨟ same (tally_way (view_layout c.args.layout.now) (view c.args.code.now) c.args.exit k _ no_sum no_update c.in-Some-tally_in.ensures)

pub remainder_done-requires-clause-remainder : goal.remainder_done-requires-clause-remainder
remainder_done-requires-clause-remainder c = remainder_fits (view_layout c.args.layout.now) (view c.args.code.now) (view_remainder c.in-Some-remainder_in.remainder) 0 0 c.args.exit (sym c.in-Some-remainder_in.ensures) c.requires.fit

pub remainder_done-requires-clause-fit : goal.remainder_done-requires-clause-fit
remainder_done-requires-clause-fit c =
    let labels = c.requires.labels in
    remainder_deeper (view_layout c.args.layout.now) (view c.args.code.now) (view_remainder c.in-Some-remainder_in.remainder) c.args.exit (sym c.in-Some-remainder_in.ensures) (omega (arith, labels)) c.requires.fit

pub returns-in-Some-remainder_in : goal.returns-in-Some-remainder_in
returns-in-Some-remainder_in c =
    let no_sum : None ≡ sum_in (view c.args.code.now) = sym (ap (option_map view_sum) c.in_default.is) ∙ c.sum_in.ensures in
    let no_update : None ≡ update_in (view c.args.code.now) = sym (ap (option_map view_update) c.in_default-update_in.is) ∙ c.update_in.ensures in
    let no_tally : None ≡ tally_in (view c.args.code.now) = sym (ap (option_map view_tally) c.in_default-tally_in.is) ∙ c.tally_in.ensures in
    λ k. c.remainder_done.ensures k ⨟ same (last_way (view_layout c.args.layout.now) (view c.args.code.now) c.args.exit k _ no_sum no_update no_tally c.in-Some-remainder_in.ensures)

pub returns-in-None : goal.returns-in-None
returns-in-None c =
    let no_sum : None ≡ sum_in (view c.args.code.now) = sym (ap (option_map view_sum) c.in_default.is) ∙ c.sum_in.ensures in
    let no_update : None ≡ update_in (view c.args.code.now) = sym (ap (option_map view_update) c.in_default-update_in.is) ∙ c.update_in.ensures in
    let no_tally : None ≡ tally_in (view c.args.code.now) = sym (ap (option_map view_tally) c.in_default-tally_in.is) ∙ c.tally_in.ensures in
    λ k. c.appended_done.ensures k ⨟ same (last_way (view_layout c.args.layout.now) (view c.args.code.now) c.args.exit k _ no_sum no_update no_tally c.in-None.ensures)
