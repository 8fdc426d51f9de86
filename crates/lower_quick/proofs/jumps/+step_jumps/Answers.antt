use Rattle.std.proofs.Common.{ap, ◌∙◌}
use Rattle.lower_model.specs.Quick.{step_jumps}
use Rattle.lower_quick.proofs.Shapes.{block_view}
use Rattle.lower_quick.proofs.jumps.+step_jumps.Goals as goal

pub step_jumps-returns-in-Block : goal.step_jumps-returns-in-Block
step_jumps-returns-in-Block t c = c.steps_jump.ensures ∙ ap step_jumps (block_view c.args.step.now c.in-Block.steps c.deref.result.now c.in-Block.is c.deref.ensures.value)
