use Rattle.std.proofs.Common.{◌≡◌, drop}
use Rattle.mid_program.specs.ViewCode.{view_steps}
use Rattle.mid_program.specs.Stores.{steps_stores}
use Rattle.value_kinds.specs.View.{view_walk}
use Rattle.value_kinds.specs.Walks.{after}
use Rattle.value_kinds.proofs.step_marks.+step_marks.Given as goal

abbrev pub invariant-mark_steps-loop-step : goal.invariant-mark_steps-loop-step
invariant-mark_steps-loop-step l = after (view_walk l.walk) (steps_stores (view_steps (drop l.step-index l.steps))) ≡ after (view_walk l.fn.walk) (steps_stores (view_steps l.steps))
