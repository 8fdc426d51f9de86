use Rattle.std.proofs.Common.{◌∙◌, arith}
use Rattle.lower_quick.proofs.Shapes.{not_two, two_of}
use Rattle.lower_quick.proofs.operands.two_codes.Goals as goal

pub returns-then-operands-ne2 : goal.returns-then-operands-ne2
returns-then-operands-ne2 c = not_two c.args.operands.now (omega arith)

pub returns : goal.returns
returns c = c.codes_in.ensures ∙ two_of c.args.operands.now c.index-operands-0.result c.index-operands-1.result (omega arith) c.index-operands-0.is c.index-operands-1.is
