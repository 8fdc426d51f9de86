-- How the code tells numbers.
use Rattle.std.specs.Prelude.{Option, Some, None, ℤ}
use Rattle.sem_primitives.specs.Numbers.{Number}
use Rattle.mid_program.specs.Mid.{Codes, At}
use Rattle.folding.specs.Folding.{constant}

abbrev pub numeral : Option Number → Option ℤ
numeral (Some n) = Some n.number
numeral None = None

-- the number of the first operand
abbrev pub leading_constant : Codes → Option Number
leading_constant (At e es) = constant e
leading_constant _ = None
