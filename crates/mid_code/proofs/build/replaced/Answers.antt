use Rattle.mid_code.proofs.Views.{view_replace}
use Rattle.mid_code.proofs.build.replaced.Goals as goal

pub returns : goal.returns
returns c = view_replace c.args.all c.args.operands c.args.store
