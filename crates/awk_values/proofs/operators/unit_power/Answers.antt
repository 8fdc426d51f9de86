use Rattle.std.proofs.Common.{rules}
use Rattle.awk_values.proofs.Powers.{power_of_zero, power_of_one, even_power, odd_power}
use Rattle.awk_values.proofs.operators.unit_power.Goals as goal

pub returns-else-exponent-eq0-clause-value : goal.returns-else-exponent-eq0-clause-value
returns-else-exponent-eq0-clause-value c = power_of_zero c.args.base c.args.exponent (search rules) c.if-exponent-eq0.false

pub returns-in-1-clause-value : goal.returns-in-1-clause-value
returns-in-1-clause-value c = power_of_one c.args.base c.args.exponent (search rules)

pub returns-then-exponent-eq0-2-clause-value : goal.returns-then-exponent-eq0-2-clause-value
returns-then-exponent-eq0-2-clause-value c = even_power c.args.base c.args.exponent (search rules) c.if-exponent-eq0-2.true

pub returns-else-exponent-eq0-2-clause-value : goal.returns-else-exponent-eq0-2-clause-value
returns-else-exponent-eq0-2-clause-value c = odd_power c.args.base c.args.exponent (search rules) c.if-exponent-eq0-2.false
