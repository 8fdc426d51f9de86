use Rattle.std.proofs.Common.{max, ◌∙◌, arith}
use Rattle.mid_program.specs.View.{view_mid}
use Rattle.mid_program.specs.ViewCode.{view_steps}
use Rattle.lower_model.specs.Functions.{main_bases}
use Rattle.lower_model.specs.Places.{steps_arrays, steps_iterators, steps_room}
use Rattle.lower_modules.specs.Counted.{counted}
use Rattle.lower_modules.proofs.LengthsLemmas.{needs_are}
use Rattle.lower_modules.proofs.needs.main_needs.Goals as goal

pub returns : goal.returns
returns c =
    let x = c.deref.ensures.value in
    let y = c.deref-2.ensures.value in
    let z = c.deref-3.ensures.value in
    let none = c.parts_needs.ensures.parameters in
    needs_are c.few.result c.parts_needs.result (main_bases (view_mid c.args.mid.now)) none (omega (arith, none))
    (c.parts_needs.ensures.temporaries ∙ (λ i. counted (max 2 (max (steps_room (view_steps (x i))) (max (steps_room (view_steps (y i))) (steps_room (view_steps (z i))))))))
    (c.parts_needs.ensures.iterators ∙ (λ i. counted (max (steps_iterators (view_steps (x i))) (max (steps_iterators (view_steps (y i))) (steps_iterators (view_steps (z i)))))))
    (c.parts_needs.ensures.arrays ∙ (λ i. counted (max (steps_arrays (view_steps (x i))) (max (steps_arrays (view_steps (y i))) (steps_arrays (view_steps (z i)))))))
    c.few.ensures
