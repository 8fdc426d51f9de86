use Rattle.std.proofs.Common.{◌≡◌, drop, max}
use Rattle.lower_modules.specs.Counted.{counted}
use Rattle.lower_modules.specs.Labels.{steps_labels}
use Rattle.mid_program.specs.ViewCode.{view_steps}
use Rattle.lower_model.specs.Places.{steps_arrays, steps_iterators, steps_room}
use Rattle.lower_modules.proofs.steps.+step_counts.Given as goal

abbrev pub invariant-steps_counts-loop-step : goal.invariant-steps_counts-loop-step
invariant-steps_counts-loop-step l = record {
  temporaries : max l.most.temporaries (counted (steps_room (view_steps (drop l.step-index l.steps)))) ≡ counted (steps_room (view_steps l.steps));
  arrays : max l.most.arrays (counted (steps_arrays (view_steps (drop l.step-index l.steps)))) ≡ counted (steps_arrays (view_steps l.steps));
  iterators : max l.most.iterators (counted (steps_iterators (view_steps (drop l.step-index l.steps)))) ≡ counted (steps_iterators (view_steps l.steps));
  labels : max l.most.labels (counted (steps_labels (view_steps (drop l.step-index l.steps)))) ≡ counted (steps_labels (view_steps l.steps));
}
