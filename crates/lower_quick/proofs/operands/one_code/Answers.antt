use Rattle.std.proofs.Common.{◌∙◌, arith}
use Rattle.lower_quick.proofs.Shapes.{not_one, one_of}
use Rattle.lower_quick.proofs.operands.one_code.Goals as goal

pub returns-then-operands-ne1 : goal.returns-then-operands-ne1
returns-then-operands-ne1 c = not_one c.args.operands.now (omega arith)

pub returns : goal.returns
returns c = c.code_in.ensures ∙ one_of c.args.operands.now c.index-operands-0.result (omega arith) c.index-operands-0.is
