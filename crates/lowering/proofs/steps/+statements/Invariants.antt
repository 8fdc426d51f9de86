use Rattle.std.proofs.Common.{◌+◌, ◌*◌, ◌≤◌, drop, true}
use Rattle.wasm_types.specs.Syntax.{Instructions}
use Rattle.mid_program.specs.ViewCode.{view_step, view_steps}
use Rattle.lower_model.specs.Boundaries.{step_places, steps_places}
use Rattle.lower_model.specs.Statements.{steps_emitted}
use Rattle.lower_pieces.proofs.Appended.{Follows}
use Rattle.lower_expressions.specs.View.{view_layout}
use Rattle.lowering.specs.StepFits.{StepsFit}
use Rattle.lowering.proofs.Stepping.{last_places}
use Rattle.lowering.proofs.steps.+statements.Given as goal

abbrev pub decreases-statement : goal.decreases-statement
decreases-statement l = 8 * step_places (view_step l.step.now)

abbrev pub decreases-statements : goal.decreases-statements
decreases-statements l = 8 * steps_places (view_steps l.steps.now) + 1

abbrev pub decreases-inner : goal.decreases-inner
decreases-inner l = 8 * step_places (view_step l.step.now) + 1

abbrev pub decreases-plain_choice : goal.decreases-plain_choice
decreases-plain_choice l = 8 * (step_places (view_step l.yes.now) + step_places (view_step l.no.now)) + 2

abbrev pub decreases-quick_way : goal.decreases-quick_way
decreases-quick_way l = 8 * step_places (view_step l.yes.now) + 1

abbrev pub decreases-quick_choice : goal.decreases-quick_choice
decreases-quick_choice l = 8 * (step_places (view_step l.yes.now) + step_places (view_step l.no.now)) + 2

abbrev pub decreases-choice : goal.decreases-choice
decreases-choice l = 8 * (step_places (view_step l.yes.now) + step_places (view_step l.no.now)) + 3

abbrev pub decreases-turn_body : goal.decreases-turn_body
decreases-turn_body l = 8 * step_places (view_step l.body.now) + 2

abbrev pub decreases-turn_ended : goal.decreases-turn_ended
decreases-turn_ended l = 8 * last_places true (view_step l.last.now) + 1

abbrev pub decreases-tested_turn : goal.decreases-tested_turn
decreases-tested_turn l = 8 * (step_places (view_step l.body.now) + last_places true (view_step l.last.now)) + 3

abbrev pub decreases-first_turn : goal.decreases-first_turn
decreases-first_turn l = 8 * (step_places (view_step l.body.now) + step_places (view_step l.last.now)) + 2

abbrev pub decreases-turn : goal.decreases-turn
decreases-turn l = 8 * (step_places (view_step l.body.now) + last_places l.tests_first (view_step l.last.now)) + 4

abbrev pub decreases-looped : goal.decreases-looped
decreases-looped l = 8 * (step_places (view_step l.body.now) + last_places l.tests_first (view_step l.last.now)) + 5

abbrev pub decreases-key_turn : goal.decreases-key_turn
decreases-key_turn l = 8 * step_places (view_step l.body.now) + 2

abbrev pub decreases-keys : goal.decreases-keys
decreases-keys l = 8 * step_places (view_step l.body.now) + 3

abbrev pub invariant-statements-loop-step : goal.invariant-statements-loop-step
invariant-statements-loop-step l = record {
  few : steps_places (view_steps (drop l.step-index l.steps)) ≤ steps_places (view_steps l.steps);
  fit : StepsFit (view_layout l.fn.layout) (view_steps (drop l.step-index l.steps)) l.at.iterators l.at.exit;
  emits : (k : Instructions) →
      Follows l.out (steps_emitted (view_layout l.fn.layout) (view_steps (drop l.step-index l.steps)) l.at.iterators l.at.exit l.at.break_to l.at.continue_to k)
      l.fn.out (steps_emitted (view_layout l.fn.layout) (view_steps l.steps) l.at.iterators l.at.exit l.at.break_to l.at.continue_to k);
}
