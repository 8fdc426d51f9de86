use Rattle.std.proofs.Common.{◌≡◌, ◌+◌, drop}
use Rattle.mid_program.specs.ViewCode.{views}
use Rattle.lower_model.specs.Places.{made_in}
use Rattle.lower_expressions.proofs.walks.made_in.Given as goal

abbrev pub invariant-loop-operand : goal.invariant-loop-operand
invariant-loop-operand l = l.count + made_in (views (drop l.operand-index l.operands)) ≡ made_in (views l.operands)
