use Rattle.std.proofs.Common.{arith}
use Rattle.lower_quick.proofs.Shapes.{no_count}
use Rattle.lower_quick.proofs.counted.is_count.Goals as goal

pub returns-then-operands-ne1 : goal.returns-then-operands-ne1
returns-then-operands-ne1 c = no_count c.args.operands.now (omega arith)
