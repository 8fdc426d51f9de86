use Rattle.std.proofs.Common.{◌≡◌, ◌-◌, drop}
use Rattle.mid_program.specs.ViewCode.{view_steps}
use Rattle.lowering.specs.Lengths.{statements_in}
use Rattle.lowering.proofs.lengths.+statements.Given as goal

abbrev pub invariant-left_after_all-loop-step : goal.invariant-left_after_all-loop-step
invariant-left_after_all-loop-step l = l.left - statements_in (view_steps (drop l.step-index l.steps)) ≡ l.left-2 - statements_in (view_steps l.steps)
