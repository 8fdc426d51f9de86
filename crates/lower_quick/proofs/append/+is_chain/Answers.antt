use Rattle.mid_program.specs.ViewCode.{view, view_slot}
use Rattle.lower_quick.proofs.Shapes.{no_chain}
use Rattle.lower_quick.proofs.append.+is_chain.Goals as goal

pub returns-in-None : goal.returns-in-None
returns-in-None t c = no_chain (view_slot c.args.slot) (view c.args.code.now) c.in-None.ensures
