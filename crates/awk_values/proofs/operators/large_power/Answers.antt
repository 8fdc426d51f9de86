use Rattle.std.proofs.Common.{arith}
use Rattle.awk_values.proofs.Powers.{large_power}
use Rattle.awk_values.proofs.operators.large_power.Goals as goal

pub returns-in_default : goal.returns-in_default
returns-in_default c = large_power c.args.base c.args.exponent c.requires (omega (arith, c.in_default.ensures))
