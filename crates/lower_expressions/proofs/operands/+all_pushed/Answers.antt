use Rattle.lower_pieces.proofs.Appended.{same}
use Rattle.lower_expressions.specs.View.{view_layout}
use Rattle.lower_expressions.proofs.WalkLemmas.{none_put}
use Rattle.lower_expressions.proofs.operands.+all_pushed.Goals as goal

pub returns-in_default : goal.returns-in_default
returns-in_default t c = λ k. same (none_put (view_layout c.args.layout.now) c.args.wanted.now c.args.operands.now c.args.temporary k c.in_default.ensures.cases)
