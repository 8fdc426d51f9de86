use Rattle.std.proofs.Common.{◌+◌, ◌*◌, ◌≤◌, drop}
use Rattle.wasm_types.specs.Syntax.{Instructions}
use Rattle.mid_program.specs.ViewCode.{view_step, view_steps}
use Rattle.lower_model.specs.Boundaries.{step_places, steps_places}
use Rattle.lower_model.specs.Statements.{steps_emitted}
use Rattle.lower_expressions.specs.View.{view_layout}
use Rattle.lower_modules.specs.Lengths.{least_in}
use Rattle.lower_modules.specs.Limits.{most_bytes}
use Rattle.lowering.specs.StepFits.{StepsFit}
use Rattle.lowering.proofs.lengths.+lengths.Given as goal

abbrev pub decreases-step_length : goal.decreases-step_length
decreases-step_length l = 2 * step_places (view_step l.step.now)

abbrev pub decreases-steps_length : goal.decreases-steps_length
decreases-steps_length l = 2 * steps_places (view_steps l.steps.now) + 1

abbrev pub invariant-steps_length-loop-step : goal.invariant-steps_length-loop-step
invariant-steps_length-loop-step l = record {
  short : l.bytes ≤ most_bytes;
  few : steps_places (view_steps (drop l.step-index l.steps)) ≤ steps_places (view_steps l.steps);
  fit : StepsFit (view_layout l.fn.layout) (view_steps (drop l.step-index l.steps)) 0 0;
  long : (k : Instructions) →
      l.bytes + least_in (steps_emitted (view_layout l.fn.layout) (view_steps (drop l.step-index l.steps)) 0 0 0 0 k) ≤ least_in (steps_emitted (view_layout l.fn.layout) (view_steps l.steps) 0 0 0 0 k);
}
