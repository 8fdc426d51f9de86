use Rattle.folding.proofs.Views.{Done, StepDone}
use Rattle.folding.proofs.step.+folding_steps.Given as goal

abbrev pub invariant-fold_steps-loop-step : goal.invariant-fold_steps-loop-step
invariant-fold_steps-loop-step l = record {
  rest : goal.unvisited-fold_steps-loop-step l;
  done : Done StepDone l.step-index l.step-items l.fn.steps.items;
}
