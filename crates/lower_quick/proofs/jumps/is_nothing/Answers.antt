use Rattle.std.proofs.Common.{ap, sym, ◌∙◌}
use Rattle.lower_model.specs.Quick.{is_nothing}
use Rattle.lower_quick.proofs.Shapes.{block_view, nothing_in}
use Rattle.lower_quick.proofs.jumps.is_nothing.Goals as goal

pub returns-in-Block : goal.returns-in-Block
returns-in-Block c =
    c.is_empty.ensures ∙ sym (nothing_in c.as_slice.result.now) ∙ ap is_nothing (block_view c.args.step.now c.in-Block.steps c.as_slice.result.now c.in-Block.is c.as_slice.ensures.value)
