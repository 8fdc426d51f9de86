use Rattle.std.proofs.Common.{◌≡◌, ap, ◌∙◌}
use Rattle.std.proofs.lemmas.Result.{IfOk-at_ok}
use Rattle.mid_program.specs.Mid as plain
use Rattle.mid_program.specs.ViewCode.{view_steps}
use Rattle.mid_code.proofs.Views.{view_block}
use Rattle.mid_code.proofs.statement.block.Goals as goal

pub returns : goal.returns
returns c ss steps = view_block c.in_ok-steps.field-0 ∙ ap plain.Block (IfOk-at_ok (λ found. view_steps found.items ≡ ss) c.in_ok-steps.was steps)
