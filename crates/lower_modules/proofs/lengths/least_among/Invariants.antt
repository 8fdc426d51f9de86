use Rattle.std.proofs.Common.{◌+◌, ◌≤◌, drop}
use Rattle.lower_modules.specs.Lengths.{least_among}
use Rattle.lower_modules.specs.View.{view_functions}
use Rattle.lower_modules.proofs.lengths.least_among.Given as goal

abbrev pub invariant-loop-function : goal.invariant-loop-function
invariant-loop-function l = l.bytes + least_among (view_functions (drop l.function-index l.functions)) ≤ least_among (view_functions l.functions)
