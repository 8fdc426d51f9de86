use Rattle.std.proofs.Common.{◌≡◌, drop}
use Rattle.host_imports.specs.Imports.{imports}
use Rattle.lower_model.specs.Modules.{any_calls, called_from}
use Rattle.lower_modules.specs.Calls.{noted}
use Rattle.lower_modules.specs.View.{view_functions}
use Rattle.lower_modules.proofs.called_imports.called_imports.Given as goal

abbrev pub invariant-loop-function : goal.invariant-loop-function
invariant-loop-function l = noted (λ i. any_calls i (view_functions (drop l.function-index l.functions))) l.called ≡ called_from 0 imports (view_functions l.functions)
