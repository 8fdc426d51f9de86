use Rattle.std.proofs.Common.{◌≡◌, drop}
use Rattle.mid_program.specs.ViewCode.{view_steps}
use Rattle.lower_model.specs.Quick.{steps_jump}
use Rattle.lower_quick.proofs.jumps.+step_jumps.Given as goal

abbrev pub invariant-steps_jump-loop-step : goal.invariant-steps_jump-loop-step
invariant-steps_jump-loop-step l = steps_jump (view_steps (drop l.step-index l.steps)) ≡ steps_jump (view_steps l.steps)
