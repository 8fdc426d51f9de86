use Rattle.value_kinds.specs.View.{slots}
use Rattle.value_kinds.proofs.Views.{Done, StepDone}
use Rattle.value_kinds.proofs.step.+step_lanes.Given as goal

abbrev pub invariant-lane_steps-loop-step : goal.invariant-lane_steps-loop-step
invariant-lane_steps-loop-step l = record {
  rest : goal.unvisited-lane_steps-loop-step l;
  done : Done (StepDone (slots l.names)) l.step-index l.step-items l.fn.steps.items;
}
