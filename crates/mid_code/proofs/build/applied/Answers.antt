use Rattle.mid_code.proofs.Views.{view_do}
use Rattle.mid_code.proofs.build.applied.Goals as goal

pub returns : goal.returns
returns c = view_do c.args.operation c.args.operands
