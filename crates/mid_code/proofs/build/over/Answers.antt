use Rattle.mid_code.proofs.Views.{view_over}
use Rattle.mid_code.proofs.build.over.Goals as goal

pub returns : goal.returns
returns c = view_over c.args.listed c.args.operands
