use Rattle.std.proofs.Common.{length, map, sym}
use Rattle.std.proofs.lemmas.List.{length-map}
use Rattle.mid_program.specs.View.{view_kind}
use Rattle.mid_program.specs.ViewCode.{view_steps}
use Rattle.lower_model.specs.Places.{bases_for}
use Rattle.lower_modules.proofs.LengthsLemmas.{needs_are}
use Rattle.lower_modules.proofs.needs.routine_needs.Goals as goal

pub returns : goal.returns
returns c =
    let kinds = c.args.kinds.now in
    needs_are c.few.result (record { parameters = length kinds; temporaries = c.steps_counts-counts.result.temporaries; iterators = c.steps_counts-counts.result.iterators; arrays = c.steps_counts-counts.result.arrays })
    (bases_for (map view_kind kinds) (view_steps c.args.body.now)) (sym (length-map kinds view_kind)) c.if-count-gt-MOST_PARAMETERS.false
    c.steps_counts-counts.ensures.temporaries c.steps_counts-counts.ensures.iterators c.steps_counts-counts.ensures.arrays c.few.ensures
