use Rattle.std.proofs.Common.{[], map, subst, sym, ◌∙◌}
use Rattle.mid_program.specs.Mid.{Program}
use Rattle.mid_program.specs.Sorted.{lender_at}
use Rattle.mid_program.specs.View.{view_declared, view_kind, view_mid, view_steps}
use Rattle.mid_program.specs.SameRuns.{SameRuns}
use Rattle.value_kinds.specs.Applied.{apply, globals_with, is_unboxed, lenders_with, steps_with}
use Rattle.value_kinds.specs.View.{view_lanes}
use Rattle.value_kinds.proofs.Applies.{applies}
use Rattle.value_kinds.proofs.program.apply.Goals as goal

pub returns-clause-code : goal.returns-clause-code
returns-clause-code c =
    let m = c.args.mid in
    let globals = c.lane_globals.ensures ∙ (λ j. globals_with (is_unboxed (map view_kind (c.deref-2.ensures.value j))) (is_unboxed (map view_kind (c.deref-3.ensures.value j))) (map view_declared m.globals.items)) in
    let lenders = c.lane_lenders.ensures ∙ (λ j. lenders_with (lender_at (c.deref.ensures.value j)) m.lenders.items) in
    let begin = c.lane_steps.ensures ∙ (λ j. steps_with (map view_kind (c.deref-4.ensures.value j)) [] (view_steps m.begin.items)) in
    let items = c.lane_steps-2.ensures ∙ (λ j. steps_with (map view_kind (c.deref-4.ensures.value j)) [] (view_steps m.items.items)) in
    let end = c.lane_steps-3.ensures ∙ (λ j. steps_with (map view_kind (c.deref-4.ensures.value j)) [] (view_steps m.end.items)) in
    λ i. record (apply (view_lanes c.args.lanes.now) (view_mid m)) { lenders = lenders i; globals = globals i; routines = c.lane_routines.ensures i; begin = begin i; items = items i; end = end i }

pub returns-clause-same_meaning : goal.returns-clause-same_meaning
returns-clause-same_meaning c =
    subst (λ (p : Program). SameRuns p (view_mid c.args.mid)) (sym (returns-clause-code c)) (applies (view_lanes c.args.lanes.now) (view_mid c.args.mid))
