use Rattle.std.proofs.Common.{◌∙◌}
use Rattle.mid_code.proofs.CodeParts.{some_ere}
use Rattle.mid_code.proofs.peek.is_ere.Goals as goal

pub returns : goal.returns
returns c = c.is_some.ensures ∙ some_ere c.ere_in.result _ c.ere_in.ensures
