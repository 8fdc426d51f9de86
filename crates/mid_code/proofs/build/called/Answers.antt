use Rattle.mid_code.proofs.Views.{view_call}
use Rattle.mid_code.proofs.build.called.Goals as goal

pub returns : goal.returns
returns c = view_call c.args.function c.args.operands
