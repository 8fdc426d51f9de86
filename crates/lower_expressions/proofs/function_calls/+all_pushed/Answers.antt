use Rattle.std.proofs.Common.{map}
use Rattle.mid_program.specs.View.{view_kind}
use Rattle.lower_pieces.proofs.Appended.{same}
use Rattle.lower_expressions.specs.View.{view_layout}
use Rattle.lower_expressions.proofs.WalkLemmas.{none_pushed}
use Rattle.lower_expressions.proofs.function_calls.+all_pushed.Goals as goal

pub returns-in_default : goal.returns-in_default
returns-in_default t c = λ k. same (none_pushed (view_layout c.args.layout.now) (map view_kind c.args.kinds.now) c.args.operands.now c.args.temporary c.args.arrays k c.in_default.ensures.cases)
