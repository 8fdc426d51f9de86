use Rattle.std.proofs.Common.{arith}
use Rattle.std.proofs.lemmas.Int.{ints}
use Rattle.awk_values.proofs.operators.add.Goals as goal

pub overflow_add-left : goal.overflow_add-left
overflow_add-left c = omega (arith, ints)
