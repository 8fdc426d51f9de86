use Rattle.std.proofs.Common.{◌∙◌, arith}
use Rattle.lower_quick.proofs.Shapes.{not_three, three_of}
use Rattle.lower_quick.proofs.operands.three_codes.Goals as goal

pub returns-then-operands-ne3 : goal.returns-then-operands-ne3
returns-then-operands-ne3 c = not_three c.args.operands.now (omega arith)

pub returns : goal.returns
returns c = c.codes_of.ensures ∙ three_of c.args.operands.now c.index-operands-0.result c.index-operands-1.result c.index-operands-2.result (omega arith) c.index-operands-0.is c.index-operands-1.is c.index-operands-2.is
