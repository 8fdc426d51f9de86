use Rattle.std.proofs.Common.{subst, sym, ◌∙◌}
use Rattle.mid_program.specs.View.{view_mid, view_routine}
use Rattle.mid_program.specs.ViewCode.{view_steps}
use Rattle.lower_model.specs.Functions.{layout_of}
use Rattle.lower_model.specs.Places.{Bases}
use Rattle.lowering.specs.StepFits.{StepsFit}
use Rattle.lowering.proofs.Smallness.{routine_fits}
use Rattle.lowering.proofs.script.routine_function.Goals as goal

pub routine_code-requires-clause-fit : goal.routine_code-requires-clause-fit
routine_code-requires-clause-fit c =
    let p = view_mid c.args.layout.now.program.now in
    rw c.deref-2.ensures.value
    (subst (λ (b : Bases). StepsFit (layout_of p b) (view_steps c.args.routine.now.body.items) 0 0) (sym (c.bases-bases.ensures ∙ c.in-Some.ensures.0))
    (routine_fits p c.args.layout.now.small c.requires.few (view_routine c.args.routine.now) c.in-Some.ensures.1 c.requires.sorted))
